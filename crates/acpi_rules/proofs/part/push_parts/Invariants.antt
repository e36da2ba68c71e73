use Rattle.std.proofs.Common.{take, map}
use Rattle.std.specs.List.{flat_map}
use Rattle.acpi_rules.specs.Field.{seen, part_wanted, Reached}
use Rattle.acpi_rules.proofs.part.push_parts.Given as goal

abbrev pub invariant-parts : goal.invariant-parts
invariant-parts l =
    Reached (flat_map (part_wanted l.start l.whole) (take l.part-index l.parts)) l.start l.whole
    (map seen l.initial.fields.items) (map seen l.fields.items) l.read
