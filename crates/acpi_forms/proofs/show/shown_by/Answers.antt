use Rattle.std.proofs.Common.{ap, ◌∙◌, arith}
use Rattle.acpi_base.proofs.Bytes.{bytes_each}
use Rattle.acpi_text.specs.Reading.{bytes_of}
use Rattle.acpi_text.proofs.Tables.{tables_have}
use Rattle.acpi_forms.proofs.show.shown_by.Goals as goal

pub returns-clause-bytes : goal.returns-clause-bytes
returns-clause-bytes c =
    ap bytes_of c.in_ok-text.ensures
    ∙ tables_have c.args.form.now c.args.walk c.args.bytes.now (bytes_each c.args.bytes.now (λ i. omega (arith, c.type_inv.bytes i))) (omega arith)
