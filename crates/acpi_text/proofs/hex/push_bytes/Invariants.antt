use Rattle.std.proofs.Common.{◌≡◌, ◌≤◌, ◌++◌, length, take, string_bytes}
use Rattle.acpi_text.specs.Hex.{number_text}
use Rattle.acpi_text.proofs.hex.push_bytes.Given as goal

abbrev pub invariant-digits : goal.invariant-digits
invariant-digits l = record {
  within : l.left ≤ length l.bytes;
  parts : string_bytes l.text ++ number_text (take l.left l.bytes) ≡ string_bytes l.initial.text ++ number_text l.bytes;
}

abbrev pub decreases-digits : goal.decreases-digits
decreases-digits l = l.left
