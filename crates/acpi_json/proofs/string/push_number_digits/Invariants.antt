use Rattle.std.proofs.Common.{◌≡◌, ◌≤◌, ◌++◌, length, take}
use Rattle.acpi_text.specs.Hex.{number_text}
use Rattle.acpi_json.proofs.string.push_number_digits.Given as goal

abbrev pub invariant-digits : goal.invariant-digits
invariant-digits l = record {
  within : l.left ≤ length l.bytes;
  parts : l.text.items ++ number_text (take l.left l.bytes) ≡ l.initial.text.items ++ number_text l.bytes;
}

abbrev pub decreases-digits : goal.decreases-digits
decreases-digits l = l.left
