use Rattle.std.proofs.Common.{ap, ◌∙◌}
use Rattle.acpi_make.specs.declared.file_kind.FileKind.{FileKind}
use Rattle.acpitool_program.proofs.Repaired.{repairs}
use Rattle.acpitool_program.specs.Repair.{seals_as}
use Rattle.acpitool_program.proofs.repairing.repair_bytes.Goals as goal

pub returns-in_ok-print_changes-in-Ok : goal.returns-in_ok-print_changes-in-Ok
returns-in_ok-print_changes-in-Ok g c =
    repairs c.write_table.result c.args.name.now c.args.bytes.now _ c.args.file.now _ _ _ _ _ _ (rw c.in-Ok.is at c.in_ok-new.ensures)
    (c.seals_as.ensures ∙ ap (λ (kind : FileKind). seals_as kind c.args.bytes.now) c.kind_of.ensures)
    (rw c.deref.ensures.value at c.in_ok-print_changes-in-Ok.ensures) (rw c.deref-in-Ok.ensures.value at c.write_table.ensures)
