use Rattle.std.proofs.Common.{◌≡◌, ◌≤◌, length, drop, reverse}
use Rattle.acpi_compile.specs.Alike.{all_counted}
use Rattle.acpi_compile.proofs.alike.alike.Given as goal

abbrev pub invariant-characters : goal.invariant-characters
invariant-characters l = record {
  within : l.left ≤ length l.kept;
  text : reverse l.text.items ≡ all_counted (drop l.left l.parts.items) (drop l.left l.kept);
}

abbrev pub decreases-characters : goal.decreases-characters
decreases-characters l = l.left
