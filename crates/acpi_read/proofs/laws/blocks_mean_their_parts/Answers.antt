use Rattle.acpi_read.proofs.Blocks.{blocks_mean_their_parts}
use Rattle.acpi_read.proofs.laws.blocks_mean_their_parts.Goals as goal

pub returns : goal.returns
returns c = blocks_mean_their_parts
