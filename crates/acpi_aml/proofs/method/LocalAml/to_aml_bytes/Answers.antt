use Rattle.std.proofs.Common.{◌≡◌, [], Some, arith}
use Rattle.std.proofs.lemmas.Bool.Decides.{nat_tests}
use Rattle.acpi_base.specs.declared.error.Error.TheVariants.{LocalNumber}
use Rattle.acpi_base.proofs.Objects.{gives_nothing}
use Rattle.acpi_term.specs.Tree.{local}
use Rattle.acpi_term.specs.Row.{own}
use Rattle.acpi_term.proofs.Rows.{row_refused}
use Rattle.acpi_aml.proofs.method.LocalAml.to_aml_bytes.Goals as goal

pub returns-then-self-gt7-clause-err : goal.returns-then-self-gt7-clause-err
returns-then-self-gt7-clause-err g c =
    let is : own (local c.args.self.now.0) 0 ≡ Some LocalNumber = grind (arith, nat_tests) in
    gives_nothing _ _ _ (λ h. absurd cc) (row_refused (local c.args.self.now.0) [] LocalNumber is)
