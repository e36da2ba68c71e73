use Rattle.std.proofs.Common.{◌≡◌, ◌++◌, drop}
use Rattle.std.specs.List.{flat_map}
use Rattle.acpi_rules.specs.Reference.{starts_among}
use Rattle.acpi_rules.proofs.reference.push_all_among.Given as goal

abbrev pub invariant-parts : goal.invariant-parts
invariant-parts l =
    l.numbers.items ++ flat_map (starts_among l.walk l.table) (drop l.among-index l.parts)
    ≡ l.initial.numbers.items ++ flat_map (starts_among l.walk l.table) l.parts
