use Rattle.std.proofs.Common.{◌≡◌, ◌++◌, drop}
use Rattle.std.specs.List.{flat_map}
use Rattle.acpi_rules.specs.Reference.{starts}
use Rattle.acpi_rules.proofs.reference.push_all_starts.Given as goal

abbrev pub invariant-types : goal.invariant-types
invariant-types l =
    l.numbers.items ++ flat_map (starts l.walk l.table) (drop l.kind-index l.types)
    ≡ l.initial.numbers.items ++ flat_map (starts l.walk l.table) l.types
