use Rattle.std.proofs.Common.{◌≡◌, ◌+◌, ◌<◌, ◌^◌, ◌++◌, true, length}
use Rattle.acpi_json.specs.Table.{elements}
use Rattle.acpi_rules.specs.Field.{structures_of}
use Rattle.acpi_text.specs.Structure.{all_forms}
use Rattle.acpi_json.proofs.table.push_structures.Given as goal

abbrev pub invariant-structures : goal.invariant-structures
invariant-structures l = record {
  fits : l.at + length l.rest < 2 ^ 64;
  parts : l.text.items ++ elements l.walk.kind (all_forms l.table) l.first (structures_of l.walk.sizes l.at l.rest)
      ≡ l.initial.text.items ++ elements l.walk.kind (all_forms l.table) true (structures_of l.walk.sizes l.start l.bytes);
}

abbrev pub decreases-structures : goal.decreases-structures
decreases-structures l = length l.rest
