use Rattle.std.proofs.Common.{◌≡◌, ◌++◌, drop}
use Rattle.acpitool_program.specs.Image.{table_objects}
use Rattle.acpitool_program.proofs.image.objects_of.Given as goal

abbrev pub invariant-tables : goal.invariant-tables
invariant-tables l =
    l.text.items ++ table_objects l.base l.bytes (drop l.table-index l.tables) ≡ table_objects l.base l.bytes l.tables
