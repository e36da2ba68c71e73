use Rattle.std.proofs.Common.{◌≡◌, drop}
use Rattle.acpi_make.specs.Lack.{lines_in, first_lacking}
use Rattle.acpi_make.proofs.lack.first_lacking.Given as goal

abbrev pub invariant-parts : goal.invariant-parts
invariant-parts l =
    first_lacking (lines_in l.lines) l.left (drop l.part-index l.parts) ≡ first_lacking (lines_in l.lines) l.size l.parts
