use Rattle.std.proofs.Common.{subst, rules}
use Rattle.std.specs.List.Sorted.{IsPermutation}
use Rattle.std.proofs.lemmas.List.Sorted.{IsNonDecreasingBy-from_sort_by_key}
use Rattle.acpi_layout.specs.Apart.{middle}
use Rattle.acpi_layout.proofs.Middles.{no_more}
use Rattle.acpi_layout.proofs.apart.by_middle.Goals as goal

pub returns : goal.returns
returns c =
    let all = c.sort_unstable_by_key.new.self.items in
    record {
      same = subst (λ l. IsPermutation l all) (no_more c.tables.i c.args.tables.now c.tables.all.items c.tables-test.false c.tables.invariant) c.sort_unstable_by_key.ensures.permutation;
      sorted = IsNonDecreasingBy-from_sort_by_key (λ p. middle p.0) _ c.sort_unstable_by_key.ensures.sorted (λ a r q k. search rules);
    }
