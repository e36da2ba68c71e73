use Rattle.std.proofs.Common.{◌≡◌, ◌≤◌, drop}
use Rattle.acpi_c_calls.specs.Seek.{seek_rows}
use Rattle.acpi_c_calls.proofs.seek.seek_rows.Given as goal

abbrev pub invariant-rows : goal.invariant-rows
invariant-rows l =
    (seek_rows l.name l.limit l.next (drop l.row-index l.rows) ≡ seek_rows l.name l.limit l.at l.rows) × (l.next ≤ l.limit)
