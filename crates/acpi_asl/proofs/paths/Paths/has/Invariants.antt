use Rattle.std.proofs.Common.{map, ◌++◌}
use Rattle.acpi_asl.specs.Paths.{path_of}
use Rattle.acpi_asl.proofs.Latest.{Looks, places_left}
use Rattle.acpi_asl.proofs.paths.Paths.has.Given as goal

abbrev pub invariant-paths : goal.invariant-paths
invariant-paths l = Looks (map path_of l.self-inside.all.items) (l.front ++ l.rest) l.next

abbrev pub decreases-paths : goal.decreases-paths
decreases-paths l = places_left l.next
