use Rattle.std.proofs.Common.{◌≡◌, ◌+◌, length}
use Rattle.acpi_compile.specs.Squeeze.{front_len}
use Rattle.acpi_compile.proofs.squeeze.front_len.Given as goal

abbrev pub invariant-front : goal.invariant-front
invariant-front l = (l.len + front_len l.rest ≡ front_len l.kept) × (l.len + length l.rest ≡ length l.kept)

abbrev pub decreases-front : goal.decreases-front
decreases-front l = length l.rest
