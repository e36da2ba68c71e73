use Rattle.std.proofs.Common.{◌≡◌, ◌++◌, drop}
use Rattle.acpi_json.specs.Text.{characters}
use Rattle.acpi_json.proofs.string.push_characters.Given as goal

abbrev pub invariant-bytes : goal.invariant-bytes
invariant-bytes l = l.text.items ++ characters (drop l.byte-index l.bytes) ≡ l.initial.text.items ++ characters l.bytes
