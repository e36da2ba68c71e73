use Rattle.std.proofs.Common.{◌≡◌, drop}
use Rattle.acpi_make.specs.Template.{rows_end}
use Rattle.acpi_make.proofs.template.rows_end.Given as goal

abbrev pub invariant-rows : goal.invariant-rows
invariant-rows l = rows_end l.offset (drop l.row-index l.rows) ≡ rows_end l.at l.rows
