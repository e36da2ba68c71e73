use Rattle.std.proofs.Common.{◌≡◌, ◌++◌, true, map, drop}
use Rattle.acpi_json.specs.Field.{elements}
use Rattle.acpi_rules.specs.Field.{seen}
use Rattle.acpi_json.proofs.field.push_elements.Given as goal

abbrev pub invariant-fields : goal.invariant-fields
invariant-fields l =
    l.text.items ++ elements l.first (map seen (drop l.field-index l.fields))
    ≡ l.initial.text.items ++ elements true (map seen l.fields)
