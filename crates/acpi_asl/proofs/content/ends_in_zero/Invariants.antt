use Rattle.std.proofs.Common.{◌≡◌, length}
use Rattle.acpi_asl.specs.Content.{ends_in_zero}
use Rattle.acpi_asl.proofs.content.ends_in_zero.Given as goal

abbrev pub invariant-bytes : goal.invariant-bytes
invariant-bytes l = ends_in_zero l.rest ≡ ends_in_zero l.bytes

abbrev pub decreases-bytes : goal.decreases-bytes
decreases-bytes l = length l.rest
