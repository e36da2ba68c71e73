use Rattle.std.proofs.Common.{◌≡◌, ◌≤◌, length}
use Rattle.acpi_make.specs.Run.{after_plain}
use Rattle.acpi_make.proofs.run.after_plain.Given as goal

abbrev pub invariant-characters : goal.invariant-characters
invariant-characters l = record {
  is : after_plain l.end l.rest ≡ after_plain l.end l.text;
  within : length l.rest ≤ length l.text;
}

abbrev pub decreases-characters : goal.decreases-characters
decreases-characters l = length l.rest
