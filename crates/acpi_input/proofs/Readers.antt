use Rattle.std.proofs.Common.{◌≡◌, ℕ, List, [], ◌++◌, Option, Some, None, IfSome, take, ◌∙◌, ap, subst}
use Rattle.std.specs.Option.{option_map}
use Rattle.std.specs.Io.Take.{take_remaining, take_limit, take_inner}
use Rattle.std.specs.declared.io.traits.Take.{Take}

cut : (known : Option (List ℕ)) (limit : ℕ) (before bytes : List ℕ) → before ≡ [] → IfSome (option_map (take limit) known) (λ xs. bytes ≡ before ++ xs) → IfSome known (λ file. bytes ≡ take limit file)
cut None limit before bytes none h = tt
cut (Some file) limit before bytes none h = h ∙ ap (λ b. b ++ take limit file) none

-- what was read into nothing through a limit
pub read : {I : Type 0} (known : I → Option (List ℕ)) (input : I) (limit : ℕ) (t : Take I) (before bytes : List ℕ) → take_inner t ≡ input → take_limit t ≡ limit → before ≡ [] → IfSome (take_remaining known t) (λ xs. bytes ≡ before ++ xs) → IfSome (known input) (λ file. bytes ≡ take limit file)
read known input limit t before bytes inner at none h =
    subst (λ i. IfSome (known i) (λ file. bytes ≡ take limit file)) inner
    (subst (λ n. IfSome (known (take_inner t)) (λ file. bytes ≡ take n file)) at (cut (known (take_inner t)) (take_limit t) before bytes none h))
