use Rattle.std.proofs.Common.{◌<◌, ap, ◌∙◌, subst}
use Rattle.acpi_base.specs.Bytes.{field_at}
use Rattle.acpi_layout.specs.Addresses.{memory_of, LiesIn}
use Rattle.acpi_layout.specs.Fault.{IsTableFault, header_is_outside, table_is_short, table_is_outside}
use Rattle.acpi_layout.proofs.Faults.{at_fault}
use Rattle.acpi_layout.proofs.found.table.Goals as goal

pub returns-in_err-header-clause-fault : goal.returns-in_err-header-clause-fault
returns-in_err-header-clause-fault c =
    at_fault _ (IsTableFault (memory_of c.args.ranges.now) c.args.address) _ _ c.from_residual.ensures.1 c.in_err-header.ensures.fault
    (header_is_outside c.in_err-header.ensures.err)

pub returns-then-length-lt36-clause-fault : goal.returns-then-length-lt36-clause-fault
returns-then-length-lt36-clause-fault c =
    table_is_short (subst (λ n. n < 36) (c.dword_at-length.ensures ∙ ap (field_at 4 4) c.in_ok-header.ensures.ok) c.if-length-lt36.true)

pub returns-in_err-whole-clause-fault : goal.returns-in_err-whole-clause-fault
returns-in_err-whole-clause-fault c =
    at_fault _ (IsTableFault (memory_of c.args.ranges.now) c.args.address) _ _ c.from_residual-in_err-whole.ensures.1 c.in_err-whole.ensures.fault
    (table_is_outside (subst (λ n. LiesIn (memory_of c.args.ranges.now) c.args.address n → ⊥) (c.dword_at-length.ensures ∙ ap (field_at 4 4) c.in_ok-header.ensures.ok) c.in_err-whole.ensures.err))
