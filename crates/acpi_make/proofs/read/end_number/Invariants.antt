use Rattle.std.proofs.Common.{◌≡◌, ◌++◌, reverse, vec_len}
use Rattle.acpi_make.specs.Item.{byte_items}
use Rattle.acpi_make.proofs.read.end_number.Given as goal

abbrev pub invariant-bytes : goal.invariant-bytes
invariant-bytes l = l.items.items ++ byte_items (reverse l.number.items) ≡ l.initial.items.items ++ byte_items (reverse l.initial.number.items)

abbrev pub decreases-bytes : goal.decreases-bytes
decreases-bytes l = vec_len l.number
