use Rattle.std.proofs.Common.{◌≡◌, ◌+◌, length}
use Rattle.acpi_asl.specs.Content.{zero_at}
use Rattle.acpi_asl.proofs.content.zero_at.Given as goal

abbrev pub invariant-characters : goal.invariant-characters
invariant-characters l = (l.len + zero_at l.rest ≡ zero_at l.bytes) × (l.len + length l.rest ≡ length l.bytes)

abbrev pub decreases-characters : goal.decreases-characters
decreases-characters l = length l.rest
