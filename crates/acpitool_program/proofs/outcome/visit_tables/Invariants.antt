use Rattle.std.proofs.Common.{take, map}
use Rattle.acpi_dump.specs.Dump.{titled}
use Rattle.acpitool_program.specs.Job.{asked}
use Rattle.acpitool_program.specs.Machine.{kept_by}
use Rattle.acpitool_program.specs.Outcome.{labelled, AreOfTables, KeptAs}
use Rattle.acpitool_program.proofs.outcome.visit_tables.Given as goal

abbrev pub invariant-tables : goal.invariant-tables
invariant-tables g l =
    KeptAs (asked l.job) (AreOfTables (map (λ table. labelled l.name (titled table)) (take l.table-index l.tables)))
    (g.O.Write.contents l.initial.out) (g.O.Write.contents l.out) (g.E.Write.contents l.initial.err) (g.E.Write.contents l.err)
    (map kept_by l.initial.kept.items) (map kept_by l.kept.items) l.worst
