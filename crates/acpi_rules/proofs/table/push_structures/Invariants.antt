use Rattle.std.proofs.Common.{◌≡◌, ◌+◌, ◌<◌, ◌^◌, ◌++◌, length, map}
use Rattle.std.specs.List.{flat_map}
use Rattle.acpi_rules.specs.Field.{seen, structure_fields, structures_of}
use Rattle.acpi_text.specs.Structure.{all_forms}
use Rattle.acpi_rules.proofs.table.push_structures.Given as goal

abbrev pub invariant-structures : goal.invariant-structures
invariant-structures l = record {
  fits : l.at + length l.rest < 2 ^ 64;
  found : map seen l.fields.items ++ flat_map (structure_fields l.walk.kind (all_forms l.table)) (structures_of l.walk.sizes l.at l.rest)
      ≡ map seen l.initial.fields.items
      ++ flat_map (structure_fields l.walk.kind (all_forms l.table)) (structures_of l.walk.sizes l.start l.bytes);
}

abbrev pub decreases-structures : goal.decreases-structures
decreases-structures l = length l.rest
