use Rattle.std.proofs.Common.{◌≡◌, ◌++◌, drop}
use Rattle.acpi_text.specs.Structure.{all_forms}
use Rattle.acpi_make.specs.Heading.{by_bytes}
use Rattle.acpi_make.proofs.heading.by_bytes.Given as goal

abbrev pub invariant-structures : goal.invariant-structures
invariant-structures l =
    by_bytes l.width l.cells (drop l.form-index l.table.structures.now ++ l.table.further.now) ≡ by_bytes l.width l.cells (all_forms l.table)

abbrev pub invariant-further : goal.invariant-further
invariant-further l =
    by_bytes l.width l.cells (drop l.form-index l.table.further.now) ≡ by_bytes l.width l.cells (all_forms l.table)
