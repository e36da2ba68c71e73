-- Words that name no file among others.
use Rattle.std.proofs.Common.{◌≡◌, ℕ, Bool, true, false, refl, sym, ◌∙◌, Result, Ok, Err, IfOk, MatchResult}

-- what is only true with something that is false
pub false_with : (a b : Bool) → (a ≡ true → b ≡ true) → b ≡ false → a ≡ false
false_with false b both not = refl
false_with true b both not = let e : true ≡ false = sym (both refl) ∙ not in cc

-- what holds of each result
pub of_each : {A E : Type 0} (r : Result A E) (P : Type 0) → P → MatchResult r (λ a. P) (λ e. Unit {0})
of_each (Ok a) P p = p
of_each (Err e) P p = tt

pub if_none : {E : Type 0} (r : Result ℕ E) (P : Type 0) → P → IfOk r (λ status. status ≡ 0 → P)
if_none (Ok a) P p = λ zero. p
if_none (Err e) P p = tt
