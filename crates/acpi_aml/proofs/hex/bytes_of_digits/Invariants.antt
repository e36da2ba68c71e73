use Rattle.std.proofs.Common.{◌≡◌, ◌*◌, length, take, drop}
use Rattle.acpi_aml.specs.Hex.{bytes_of_digits}
use Rattle.acpi_aml.proofs.Digits.{before}
use Rattle.acpi_aml.proofs.hex.bytes_of_digits.Given as goal

abbrev pub invariant-loop-i : goal.invariant-loop-i
invariant-loop-i g l = record {
  size : length l.bytes ≡ g.row.N;
  so_far : bytes_of_digits l.text ≡ before (take l.i l.bytes) (bytes_of_digits (drop (2 * l.i) l.text));
}
