use Rattle.std.proofs.Common.{◌≡◌, ◌+◌, ◌<◌, ◌^◌, ◌++◌, length, map}
use Rattle.acpi_rules.specs.Finding.{noted}
use Rattle.acpi_rules.specs.Matrix.{row_findings}
use Rattle.acpi_rules.proofs.matrix.check_distances.Given as goal

abbrev pub invariant-distances : goal.invariant-distances
invariant-distances l = record {
  fits : l.at + length l.rest < 2 ^ 64;
  found : map noted l.findings.items ++ row_findings l.section l.name l.number l.others l.at l.rest
      ≡ map noted l.initial.findings.items ++ row_findings l.section l.name l.number 0 l.start l.distances;
}

abbrev pub decreases-distances : goal.decreases-distances
decreases-distances l = length l.rest
