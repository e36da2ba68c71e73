use Rattle.std.proofs.Common.{◌≡◌, ◌++◌, ◌*◌, length, string_bytes}
use Rattle.acpi_text.specs.Hex.{numbers_text}
use Rattle.acpi_text.proofs.hex.push_numbers.Given as goal

abbrev pub invariant-numbers : goal.invariant-numbers
invariant-numbers l = record {
  size : length l.rest ≡ l.width * l.left;
  parts : string_bytes l.text ++ numbers_text l.width l.left l.rest ≡ string_bytes l.initial.text ++ numbers_text l.width l.count l.bytes;
}

abbrev pub decreases-numbers : goal.decreases-numbers
decreases-numbers l = l.left
