use Rattle.std.proofs.Common.{◌≡◌, length}
use Rattle.acpi_make.specs.Text.{after}
use Rattle.acpi_make.proofs.text.after.Given as goal

abbrev pub invariant-characters : goal.invariant-characters
invariant-characters l = after l.wanted l.rest ≡ after l.front l.text

abbrev pub decreases-characters : goal.decreases-characters
decreases-characters l = length l.wanted
