use Rattle.std.proofs.Common.{◌≡◌, ◌++◌, false, drop}
use Rattle.acpi_json.specs.Array.{with_commas}
use Rattle.acpi_json.proofs.array.push_lines.Given as goal

abbrev pub invariant-bytes : goal.invariant-bytes
invariant-bytes l =
    l.text.items ++ with_commas l.ended (drop l.byte-index l.lines) ≡ l.initial.text.items ++ with_commas false l.lines
