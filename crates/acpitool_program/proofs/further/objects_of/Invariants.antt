use Rattle.std.proofs.Common.{[], take, map}
use Rattle.acpi_terms_text.specs.Objects.{callee_by}
use Rattle.acpitool_program.specs.Machine.{kept_by}
use Rattle.acpitool_program.specs.Shown.{AddsBlocks}
use Rattle.acpitool_program.proofs.further.objects_of.Given as goal

abbrev pub invariant-tables : goal.invariant-tables
invariant-tables l =
    AddsBlocks l.stated (map kept_by (take l.table-index l.tables)) [] (map callee_by l.all.items)
