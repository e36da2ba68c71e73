use Rattle.std.proofs.Common.{◌≡◌, ◌+◌, ◌++◌, length, drop, map}
use Rattle.acpi_rules.specs.Field.{seen, lists_fields}
use Rattle.acpi_rules.proofs.table.push_lists.Given as goal

abbrev pub invariant-lists : goal.invariant-lists
invariant-lists l = record {
  within : l.at + length l.rest ≡ length l.bytes;
  shown : map seen l.fields.items ++ lists_fields l.whole (drop l.list-index l.lists) (l.start + l.at) l.rest
      ≡ map seen l.initial.fields.items ++ lists_fields l.whole l.lists l.start l.bytes;
}
