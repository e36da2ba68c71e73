use Rattle.std.proofs.Common.{◌≡◌, drop}
use Rattle.acpi_make.specs.Lack.{lines_in, counted_at}
use Rattle.acpi_make.proofs.lack.counted_at.Given as goal

abbrev pub invariant-parts : goal.invariant-parts
invariant-parts l =
    counted_at (lines_in l.lines) l.place (drop l.part-index l.parts) ≡ counted_at (lines_in l.lines) l.place l.parts
