use Rattle.std.proofs.Common.{◌≡◌, ◌++◌, map, take, string_bytes}
use Rattle.acpi_rules.specs.Difference.{lines}
use Rattle.acpi_rules.specs.Field.{seen}
use Rattle.acpi_rules.proofs.difference.push_lines.Given as goal

abbrev pub invariant-fields : goal.invariant-fields
invariant-fields l = string_bytes l.text ≡ string_bytes l.initial.text ++ lines (take l.i (map seen l.a)) (take l.i (map seen l.b))
