use Rattle.std.proofs.Common.{◌≡◌, ◌++◌}
use Rattle.acpi_dump.specs.Line.{bytes_in}
use Rattle.acpi_dump.proofs.line.push_bytes.Given as goal

abbrev pub invariant-bytes : goal.invariant-bytes
invariant-bytes l = l.table.items ++ bytes_in l.left l.rest ≡ l.initial.table.items ++ bytes_in 16 l.text

abbrev pub decreases-bytes : goal.decreases-bytes
decreases-bytes l = l.left
