use Rattle.std.proofs.Common.{◌≡◌}
use Rattle.acpi_rules.specs.Chain.{ends_within}
use Rattle.acpi_rules.proofs.chain.ends_within.Given as goal

abbrev pub invariant-steps : goal.invariant-steps
invariant-steps l = ends_within l.left l.next l.at ≡ ends_within l.most l.next l.place

abbrev pub decreases-steps : goal.decreases-steps
decreases-steps l = l.left
