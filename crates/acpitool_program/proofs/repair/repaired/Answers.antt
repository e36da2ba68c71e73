use Rattle.std.proofs.Common.{◌≤◌, length, sym, subst, ◌∙◌}
use Rattle.acpi_make.specs.declared.file_kind.FileKind.{FileKind}
use Rattle.acpitool_program.specs.Repair.{least}
use Rattle.acpitool_program.proofs.Repairs.{fits}
use Rattle.acpitool_program.proofs.repair.repaired.Goals as goal

pub repaired_as-requires-clause-some : goal.repaired_as-requires-clause-some
repaired_as-requires-clause-some c =
    subst (λ (kind : FileKind). least kind c.args.bytes.now ≤ length c.args.bytes.now) (sym c.kind_of.ensures)
    (fits c.args.bytes.now (sym c.unfit_of.ensures ∙ c.in-None.is)).0

pub repaired_as-requires-clause-counted : goal.repaired_as-requires-clause-counted
repaired_as-requires-clause-counted c = (fits c.args.bytes.now (sym c.unfit_of.ensures ∙ c.in-None.is)).1
