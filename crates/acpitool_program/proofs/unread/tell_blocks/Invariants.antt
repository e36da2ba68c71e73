use Rattle.std.proofs.Common.{map, take}
use Rattle.acpi_terms_text.specs.Objects.{callee_by}
use Rattle.acpitool_program.specs.Machine.{kept_by}
use Rattle.acpitool_program.specs.Unread.{TellsUnread}
use Rattle.acpitool_program.proofs.unread.tell_blocks.Given as goal

abbrev pub invariant-tables : goal.invariant-tables
invariant-tables g l =
    TellsUnread l.stated (map callee_by l.further) (map kept_by (take l.table-index l.tables))
    (g.E.Write.contents l.initial.err) (g.E.Write.contents l.err) l.worst
