use Rattle.std.proofs.Common.{ℕ, List, All, Bor, subst, ◌∙◌}
use Rattle.test_support.specs.Expected.{AreAt}
use Rattle.test_support.proofs.table.all_stand.Goals as goal

pub returns-clause-at : goal.returns-clause-at
returns-clause-at g c =
    subst (λ (l : List ℕ). All {X = ℕ × Bor (List ℕ)} (λ row. AreAt row.0 row.1.now l) c.args.rows.now)
    (c.deref.ensures.value ∙ c.in_ok-written.ensures.is) c.in_ok-have_each.ensures
