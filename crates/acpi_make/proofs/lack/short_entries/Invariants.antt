use Rattle.std.proofs.Common.{◌≡◌, drop}
use Rattle.acpi_make.specs.Lack.{lines_in, short_entries}
use Rattle.acpi_make.proofs.lack.short_entries.Given as goal

abbrev pub invariant-parts : goal.invariant-parts
invariant-parts l =
    short_entries (lines_in l.lines) l.end (drop l.part-index l.parts) ≡ short_entries (lines_in l.lines) l.end l.parts
