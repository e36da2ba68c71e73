use Rattle.std.proofs.Common.{◌≡◌, ◌++◌, drop}
use Rattle.acpi_text.specs.Structure.{all_forms}
use Rattle.acpi_make.specs.Entry.{find_inside}
use Rattle.acpi_make.proofs.entry.find_inside.Given as goal

abbrev pub invariant-structures : goal.invariant-structures
invariant-structures l =
    find_inside l.line (drop l.form-index l.table.structures.now ++ l.table.further.now) ≡ find_inside l.line (all_forms l.table)

abbrev pub invariant-further : goal.invariant-further
invariant-further l =
    find_inside l.line (drop l.form-index l.table.further.now) ≡ find_inside l.line (all_forms l.table)
