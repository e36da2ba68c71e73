use Rattle.std.proofs.Common.{◌≡◌, ◌++◌, drop}
use Rattle.acpi_text.specs.Structure.{all_forms}
use Rattle.acpi_make.specs.Heading.{find_named}
use Rattle.acpi_make.proofs.heading.find_named.Given as goal

abbrev pub invariant-structures : goal.invariant-structures
invariant-structures l =
    find_named l.name (drop l.form-index l.table.structures.now ++ l.table.further.now) ≡ find_named l.name (all_forms l.table)

abbrev pub invariant-further : goal.invariant-further
invariant-further l =
    find_named l.name (drop l.form-index l.table.further.now) ≡ find_named l.name (all_forms l.table)
