use Rattle.acpi_example.proofs.Distances.{apart}
use Rattle.acpi_example.proofs.domains.distances.Goals as goal

pub returns : goal.returns
returns c = apart _ _ _ c.in_ok-set_distance.ensures.ok c.in_ok-table.ensures.ok
