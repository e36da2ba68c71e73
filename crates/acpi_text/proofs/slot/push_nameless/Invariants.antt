use Rattle.std.proofs.Common.{◌≡◌, ◌+◌, ◌<◌, ◌^◌, ◌++◌, length, string_bytes}
use Rattle.acpi_text.specs.Slot.{nameless}
use Rattle.acpi_text.proofs.slot.push_nameless.Given as goal

abbrev pub invariant-lines : goal.invariant-lines
invariant-lines l = record {
  fits : l.at + length l.rest < 2 ^ 64;
  parts : string_bytes l.text ++ nameless l.at l.rest ≡ string_bytes l.initial.text ++ nameless l.offset l.bytes;
}

abbrev pub decreases-lines : goal.decreases-lines
decreases-lines l = length l.rest
