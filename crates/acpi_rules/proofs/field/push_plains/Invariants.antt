use Rattle.std.proofs.Common.{take, map}
use Rattle.std.specs.List.{flat_map}
use Rattle.acpi_rules.specs.Field.{seen, plain_wanted, Reached}
use Rattle.acpi_rules.proofs.field.push_plains.Given as goal

abbrev pub invariant-rows : goal.invariant-rows
invariant-rows l =
    Reached (flat_map plain_wanted (take l.row-index l.rows)) l.at l.bytes (map seen l.initial.fields.items)
    (map seen l.fields.items) l.read
