use Rattle.std.proofs.Common.{◌≡◌, ◌≤◌, length, drop, map}
use Rattle.acpi_text.specs.Size.{inner_size}
use Rattle.acpi_rules.specs.Field.{seen, inner_fields}
use Rattle.acpi_rules.specs.Field.{no_fields}
use Rattle.acpi_text.proofs.Pieces.{Goes}
use Rattle.acpi_rules.proofs.table.push_list.Given as goal

abbrev pub invariant-inners : goal.invariant-inners
invariant-inners l = record {
  within : l.at ≤ length l.bytes;
  back : l.rest ≡ drop l.at l.bytes;
  shown : Goes (inner_size l.list) (inner_fields l.list) no_fields l.count l.start l.bytes (map seen l.initial.fields.items) l.left l.at l.rest (map seen l.fields.items);
}

abbrev pub decreases-inners : goal.decreases-inners
decreases-inners l = l.left
