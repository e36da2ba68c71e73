use Rattle.std.proofs.Common.{◌≡◌, ◌++◌, drop}
use Rattle.acpi_text.specs.Structure.{all_forms, find_form}
use Rattle.acpi_text.proofs.piece.find_form.Given as goal

abbrev pub invariant-structures : goal.invariant-structures
invariant-structures l =
    find_form l.number (drop l.form-index l.table.structures.now ++ l.table.further.now) ≡ find_form l.number (all_forms l.table)

abbrev pub invariant-further : goal.invariant-further
invariant-further l = find_form l.number (drop l.form-index l.table.further.now) ≡ find_form l.number (all_forms l.table)
