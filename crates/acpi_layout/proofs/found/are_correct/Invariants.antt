use Rattle.std.proofs.Common.{ℕ, ◌<◌, get_or}
use Rattle.acpi_base.specs.Table.{IsTrueTable}
use Rattle.acpi_layout.specs.Addresses.{memory_of}
use Rattle.acpi_layout.specs.declared.located.Located.{Located}
use Rattle.acpi_layout.specs.Found.{contents}
use Rattle.acpi_layout.proofs.found.are_correct.Given as goal

abbrev pub invariant-loop-table : goal.invariant-loop-table
invariant-loop-table l =
    (k : ℕ) (d : Located) → k < l.table-index → IsTrueTable (contents (memory_of l.ranges) (get_or l.tables k d))
