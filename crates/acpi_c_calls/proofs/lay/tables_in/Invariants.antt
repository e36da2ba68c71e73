use Rattle.std.proofs.Common.{◌≡◌, ◌++◌, length, map}
use Rattle.std.specs.List.{concat}
use Rattle.acpi_c_calls.specs.Lay.{AreWhole}
use Rattle.acpi_c_calls.proofs.lay.tables_in.Given as goal

abbrev pub invariant-tables : goal.invariant-tables
invariant-tables l =
    (concat (map (λ table. table.items) l.tables.items) ++ l.rest ≡ l.bytes) × AreWhole (map (λ table. table.items) l.tables.items)

abbrev pub decreases-tables : goal.decreases-tables
decreases-tables l = length l.rest
