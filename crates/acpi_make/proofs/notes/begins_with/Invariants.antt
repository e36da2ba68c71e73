use Rattle.std.proofs.Common.{◌≡◌}
use Rattle.acpi_make.specs.Notes.{begins_with}
use Rattle.acpi_make.proofs.notes.begins_with.Given as goal

abbrev pub invariant-bytes : goal.invariant-bytes
invariant-bytes l = begins_with l.left l.number_left l.bytes_left ≡ begins_with l.width l.number l.bytes

abbrev pub decreases-bytes : goal.decreases-bytes
decreases-bytes l = l.left
