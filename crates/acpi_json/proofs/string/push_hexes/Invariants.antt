use Rattle.std.proofs.Common.{◌≡◌, ◌++◌, drop}
use Rattle.std.specs.List.{flat_map}
use Rattle.acpi_base.specs.Digit.{hex_byte}
use Rattle.acpi_json.proofs.string.push_hexes.Given as goal

abbrev pub invariant-bytes : goal.invariant-bytes
invariant-bytes l =
    l.text.items ++ flat_map hex_byte (drop l.byte-index l.bytes) ≡ l.initial.text.items ++ flat_map hex_byte l.bytes
