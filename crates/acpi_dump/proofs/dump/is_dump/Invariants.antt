use Rattle.std.proofs.Common.{◌≡◌, length}
use Rattle.acpi_dump.specs.Lines.{lines}
use Rattle.acpi_dump.specs.Dump.{begins_with_title}
use Rattle.acpi_dump.proofs.dump.is_dump.Given as goal

abbrev pub invariant-lines : goal.invariant-lines
invariant-lines l = begins_with_title (lines l.rest) ≡ begins_with_title (lines l.text)

abbrev pub decreases-lines : goal.decreases-lines
decreases-lines l = length l.rest
