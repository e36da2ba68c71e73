-- Parts of which each names the next one.
use Rattle.std.proofs.Common.{◌≡◌, ℕ, suc, ◌-◌, ◌<◌, Bool, true, cond, List, slice_index_or, ap, ◌∙◌, arith}
use Rattle.std.proofs.lemmas.Bool.{ne_eqb}
use Rattle.acpi_rules.specs.Chain.{ends_within}

-- the next part is reached
pub one_step : (left place : ℕ) (next : List ℕ) → 0 < left → 0 < place
    → ends_within left next place ≡ ends_within (left - 1) next (slice_index_or next (place - 1) 0)
one_step left place next some more =
    let e : left ≡ suc (left - 1) = omega (arith, some) in
    ap (λ (n : ℕ). ends_within n next place) e
    ∙ ap (λ (b : Bool). cond b true (ends_within (left - 1) next (slice_index_or next (place - 1) 0)))
    (ne_eqb place 0 (λ none. absurd (omega (arith, none, more))))
