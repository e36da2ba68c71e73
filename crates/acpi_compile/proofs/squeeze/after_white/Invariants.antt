use Rattle.std.proofs.Common.{◌≡◌, length}
use Rattle.acpi_compile.specs.Squeeze.{after_white}
use Rattle.acpi_compile.proofs.squeeze.after_white.Given as goal

abbrev pub invariant-white : goal.invariant-white
invariant-white l = after_white l.rest ≡ after_white l.text

abbrev pub decreases-white : goal.decreases-white
decreases-white l = length l.rest
