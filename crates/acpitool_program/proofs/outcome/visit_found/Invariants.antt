use Rattle.std.proofs.Common.{take, map}
use Rattle.acpi_layout.specs.Addresses.{image_at}
use Rattle.acpitool_program.specs.Job.{asked}
use Rattle.acpitool_program.specs.Machine.{kept_by}
use Rattle.acpitool_program.specs.Outcome.{in_image, AreOfTables, KeptAs}
use Rattle.acpitool_program.proofs.outcome.visit_found.Given as goal

abbrev pub invariant-tables : goal.invariant-tables
invariant-tables g l =
    KeptAs (asked l.job) (AreOfTables (map (in_image l.image.file.now (image_at l.image.base l.bytes)) (take l.table-index l.tables)))
    (g.O.Write.contents l.initial.out) (g.O.Write.contents l.out) (g.E.Write.contents l.initial.err) (g.E.Write.contents l.err)
    (map kept_by l.initial.kept.items) (map kept_by l.kept.items) l.worst
