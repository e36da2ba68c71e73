use Rattle.std.proofs.Common.{◌≡◌, ◌-◌, ◌<◌, ◌≤◌, ℕ, map, length, true}
use Rattle.acpi_rules.specs.Difference.{same_before}
use Rattle.acpi_rules.specs.Field.{seen}
use Rattle.acpi_rules.proofs.difference.end_of.Given as goal

abbrev pub invariant-fields : goal.invariant-fields
invariant-fields l = record {
  first : l.count ≤ length l.a;
  second : l.count ≤ length l.b;
  same : (k : ℕ) → k < l.count → same_before (map seen l.a) (map seen l.b) k ≡ true;
}

abbrev pub decreases-fields : goal.decreases-fields
decreases-fields l = length l.a - l.count
