use Rattle.std.proofs.Common.{refl, length, [], ◌+◌}
use Rattle.acpi_nodes.specs.Hart.{hart_info, with_offset, hart_info_head}
use Rattle.acpi_nodes.proofs.References.{last_number}
use Rattle.acpi_nodes.proofs.rhct.rhct_references_are_read.Goals as goal

pub returns : goal.returns
returns c = record {
  isa_strings = λ uid offset small. last_number (hart_info_head (hart_info uid offset)) [] 12 4 offset refl small;
  others = λ h offset small. last_number (hart_info_head (with_offset h offset)) h.offsets.bytes (12 + length h.offsets.bytes) 4 offset refl small;
}
