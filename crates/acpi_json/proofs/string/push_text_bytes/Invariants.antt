use Rattle.std.proofs.Common.{◌≡◌, ◌++◌, drop}
use Rattle.std.specs.List.{flat_map}
use Rattle.acpi_json.specs.Text.{text_byte}
use Rattle.acpi_json.proofs.string.push_text_bytes.Given as goal

abbrev pub invariant-bytes : goal.invariant-bytes
invariant-bytes l =
    l.text.items ++ flat_map text_byte (drop l.byte-index l.said) ≡ l.initial.text.items ++ flat_map text_byte l.said
