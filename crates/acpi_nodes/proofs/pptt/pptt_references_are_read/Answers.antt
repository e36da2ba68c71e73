use Rattle.acpi_base.specs.Bytes.{le}
use Rattle.acpi_base.proofs.Bytes.{carried_le}
use Rattle.acpi_nodes.specs.Pptt.{processor_head}
use Rattle.acpi_nodes.specs.Resources.{with_resource}
use Rattle.acpi_nodes.proofs.References.{last_number}
use Rattle.std.proofs.Common.{refl, length, ◌+◌}
use Rattle.acpi_nodes.proofs.pptt.pptt_references_are_read.Goals as goal

pub returns : goal.returns
returns c = record {
  parents = λ p small. carried_le 4 p.parent small;
  next_levels = λ cache small. carried_le 4 cache.next_level small;
  resources = λ p offset small.
      last_number (processor_head (record p { resources = with_resource p.resources offset })) p.resources.bytes (20 + length p.resources.bytes) 4 offset refl small;
}
