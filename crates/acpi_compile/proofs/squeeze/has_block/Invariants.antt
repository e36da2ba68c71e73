use Rattle.std.proofs.Common.{◌≡◌, length}
use Rattle.acpi_compile.specs.Squeeze.{has_block_from, has_block}
use Rattle.acpi_compile.proofs.squeeze.has_block.Given as goal

abbrev pub invariant-characters : goal.invariant-characters
invariant-characters l = has_block_from l.fresh l.rest ≡ has_block l.text

abbrev pub decreases-characters : goal.decreases-characters
decreases-characters l = length l.rest
