use Rattle.std.proofs.Common.{◌≡◌, length}
use Rattle.acpi_base.specs.Look.{bits_of}
use Rattle.acpi_make.specs.Value.{joined}
use Rattle.acpi_make.proofs.value.joined.Given as goal

abbrev pub invariant-names : goal.invariant-names
invariant-names l = joined l.left l.said l.all (bits_of l.parts) l.rest ≡ joined (length l.text) 0 0 (bits_of l.parts) l.text

abbrev pub decreases-names : goal.decreases-names
decreases-names l = l.left
