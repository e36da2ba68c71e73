use Rattle.std.proofs.Common.{rules}
use Rattle.acpi_layout.specs.Addresses.{memory_of}
use Rattle.acpi_layout.specs.declared.located.Located.{Located}
use Rattle.acpi_layout.specs.Found.{IsNamedTableAt}
use Rattle.acpi_layout.specs.Fault.{IsNamedTableFault, no_table, table_has_other_signature}
use Rattle.acpi_layout.proofs.Founds.{on_err, at_exit}
use Rattle.acpi_layout.proofs.found.named_table.Goals as goal

pub returns-in_err-found-clause-err : goal.returns-in_err-found-clause-err
returns-in_err-found-clause-err c =
    let no_table : (t : Located) → IsNamedTableAt (memory_of c.args.ranges.now) c.args.signature c.args.address t → ⊥ = λ t is. c.in_err-found.ensures.err t is.is_table in
    on_err _ _ no_table

pub returns-in_err-found-clause-fault : goal.returns-in_err-found-clause-fault
returns-in_err-found-clause-fault c =
    at_exit _ (IsNamedTableFault (memory_of c.args.ranges.now) c.args.signature c.args.address) _ c.from_residual.ensures.1 (no_table c.in_err-found.ensures.fault)

pub returns-then-ne-clause-fault : goal.returns-then-ne-clause-fault
returns-then-ne-clause-fault c = table_has_other_signature c.in_ok-found.found c.in_ok-found.ensures.ok (λ is. search rules)
