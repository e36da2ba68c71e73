use Rattle.std.proofs.Common.{[], map, take, string_bytes}
use Rattle.acpi_terms_text.specs.Objects.{callee_by}
use Rattle.acpitool_program.specs.Job.{shows}
use Rattle.acpitool_program.specs.Machine.{kept_by}
use Rattle.acpitool_program.specs.Outcome.{AreOfTables, KeptAs}
use Rattle.acpitool_program.proofs.show.show_tables.Given as goal

abbrev pub invariant-tables : goal.invariant-tables
invariant-tables g l =
    KeptAs (shows l.showing.style (map (λ word. string_bytes word) l.showing.files.now) l.showing.stated.now (map callee_by l.showing.further.now))
    (AreOfTables (map kept_by (take l.table-index l.tables)))
    (g.O.Write.contents l.initial.out) (g.O.Write.contents l.out) (g.E.Write.contents l.initial.err) (g.E.Write.contents l.err)
    [] [] l.worst
