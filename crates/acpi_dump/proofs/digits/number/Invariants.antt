use Rattle.std.proofs.Common.{◌≡◌, ◌<◌, ◌^◌, drop}
use Rattle.std.specs.Str.Parse.{digits_value, digits_value_after}
use Rattle.acpi_dump.proofs.digits.number.Given as goal

abbrev pub invariant-digits : goal.invariant-digits
invariant-digits l = record {
  fits : l.number < 2 ^ 64;
  so_far : digits_value_after 16 l.number (drop l.byte-index l.digits) ≡ digits_value 16 l.digits;
}
