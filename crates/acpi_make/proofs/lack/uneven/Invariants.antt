use Rattle.std.proofs.Common.{◌≡◌, drop}
use Rattle.acpi_make.specs.Lack.{lines_in, uneven}
use Rattle.acpi_make.proofs.lack.uneven.Given as goal

abbrev pub invariant-parts : goal.invariant-parts
invariant-parts l = uneven (lines_in l.lines) (drop l.part-index l.parts) ≡ uneven (lines_in l.lines) l.parts
