-- Parts between dots.
use Rattle.std.proofs.Common.{◌≡◌, ℕ, suc, ◌<◌, ◌≤◌, Bool, true, false, cond, eqb, List, [], ◌∷◌, length, refl, sym, ap, ◌∙◌, arith}
use Rattle.std.specs.Prelude.{◌||◌}
use Rattle.std.proofs.lemmas.Bool.{ne_eqb, eqb-true, eqb-false}
use Rattle.acpi_term.specs.PathText.{begun, parts, with_dots, AreDotless, are_fours, dotted}

first : List (List ℕ) → ℕ
first [] = 0
first (p ∷ ps) = length p

begun_some : (b : ℕ) (ps : List (List ℕ)) → 0 < length (begun b ps)
begun_some b [] = omega arith
begun_some b (p ∷ ps) = omega arith

either_some : (t : Bool) (b : ℕ) (ps : List (List ℕ)) → 0 < length (cond t ([] ∷ ps) (begun b ps))
either_some true b ps = omega arith
either_some false b ps = begun_some b ps

pub some_parts : (text : List ℕ) → 0 < length (parts text)
some_parts [] = omega arith
some_parts (b ∷ text) = either_some (eqb b 46) b (parts text)

first_begun : (b : ℕ) (ps : List (List ℕ)) → first (begun b ps) ≤ suc (first ps)
unfolding first
first_begun b [] = omega arith
first_begun b (p ∷ ps) = omega arith

first_either : (t : Bool) (b : ℕ) (ps : List (List ℕ)) → first (cond t ([] ∷ ps) (begun b ps)) ≤ suc (first ps)
unfolding first
first_either true b ps = omega arith
first_either false b ps = first_begun b ps

first_parts : (text : List ℕ) → first (parts text) ≤ length text
unfolding first
first_parts [] = omega arith
first_parts (b ∷ text) = omega (arith, first_either (eqb b 46) b (parts text), first_parts text)

not_fours : (ps : List (List ℕ)) → 0 < length ps → first ps < 4 → are_fours ps ≡ false
unfolding first
not_fours [] some small = absurd (omega arith)
not_fours (p ∷ ps) some small = let h : eqb (length p) 4 ≡ false = ne_eqb (length p) 4 (λ z. omega (arith, z)) in rw h refl

pub short : (text : List ℕ) → length text < 4 → are_fours (parts text) ≡ false
short text small = not_fours (parts text) (some_parts text) (omega (arith, first_parts text))

none_of : (p q r s : Bool) → (p || q || r || s) ≡ false → (p ≡ false) × (q ≡ false) × (r ≡ false) × (s ≡ false)
none_of false false false false h = (refl, refl, refl, refl)
none_of true q r s h = absurd cc
none_of false true r s h = absurd cc
none_of false false true s h = absurd cc
none_of false false false true h = absurd cc

module _ (a b c d : ℕ) where
  pub step : (more : List ℕ) → dotted a b c d ≡ false → parts (a ∷ b ∷ c ∷ d ∷ 46 ∷ more) ≡ (a ∷ b ∷ c ∷ d ∷ []) ∷ parts more
  step more h = let n = none_of (eqb a 46) (eqb b 46) (eqb c 46) (eqb d 46) h in rw (n.0, n.1, n.2, n.3) refl

  pub last : dotted a b c d ≡ false → parts (a ∷ b ∷ c ∷ d ∷ []) ≡ (a ∷ b ∷ c ∷ d ∷ []) ∷ []
  last h = let n = none_of (eqb a 46) (eqb b 46) (eqb c 46) (eqb d 46) h in rw (n.0, n.1, n.2, n.3) refl

  long_from : (x : ℕ) (ps : List (List ℕ)) → are_fours (begun a (begun b (begun c (begun d (begun x ps))))) ≡ false
  long_from x [] = refl
  long_from x (p ∷ ps) = let h : eqb (length (a ∷ b ∷ c ∷ d ∷ x ∷ p)) 4 ≡ false = ne_eqb _ _ (λ z. omega (arith, z)) in rw h refl

  pub long : (x : ℕ) (more : List ℕ) → dotted a b c d ≡ false → (x ≡ 46 → ⊥) → are_fours (parts (a ∷ b ∷ c ∷ d ∷ x ∷ more)) ≡ false
  long x more h other =
      let n = none_of (eqb a 46) (eqb b 46) (eqb c 46) (eqb d 46) h in
      let e : eqb x 46 ≡ false = ne_eqb x 46 other in
      rw (n.0, n.1, n.2, n.3, e) (long_from x (parts more))

  dots_from : (p q r s : Bool) (more : List (List ℕ)) (n m l k : List (List ℕ)) → (p || q || r || s) ≡ true
      → are_fours (cond p ([] ∷ n) (begun a (cond q ([] ∷ m) (begun b (cond r ([] ∷ l) (begun c (cond s ([] ∷ k) (begun d more)))))))) ≡ false
  dots_from true q r s more n m l k h = refl
  dots_from false true r s more n m l k h = refl
  dots_from false false true s more n m l k h = refl
  dots_from false false false true more n m l k h = refl
  dots_from false false false false more n m l k h = absurd cc

  pub dots : (tail : List ℕ) → dotted a b c d ≡ true → are_fours (parts (a ∷ b ∷ c ∷ d ∷ tail)) ≡ false
  dots tail h = dots_from (eqb a 46) (eqb b 46) (eqb c 46) (eqb d 46) (parts tail) (parts (b ∷ c ∷ d ∷ tail)) (parts (c ∷ d ∷ tail)) (parts (d ∷ tail)) (parts tail) h

-- ---- dots

begun_joins : (b : ℕ) (ps : List (List ℕ)) → with_dots (begun b ps) ≡ b ∷ with_dots ps
begun_joins b [] = refl
begun_joins b (p ∷ []) = refl
begun_joins b (p ∷ q ∷ ps) = refl

some_joins : (ps : List (List ℕ)) → 0 < length ps → with_dots ([] ∷ ps) ≡ 46 ∷ with_dots ps
some_joins [] some = absurd (omega arith)
some_joins (p ∷ ps) some = refl

either_joins : (t : Bool) (b : ℕ) (ps : List (List ℕ)) → (t ≡ true → b ≡ 46) → 0 < length ps → with_dots (cond t ([] ∷ ps) (begun b ps)) ≡ b ∷ with_dots ps
either_joins true b ps is some = some_joins ps some ∙ ap (λ (x : ℕ). x ∷ with_dots ps) (sym (is refl))
either_joins false b ps is some = begun_joins b ps

pub parts_join : (text : List ℕ) → with_dots (parts text) ≡ text
parts_join [] = refl
parts_join (b ∷ text) = either_joins (eqb b 46) b (parts text) (eqb-true b 46) (some_parts text) ∙ ap (λ (l : List ℕ). b ∷ l) (parts_join text)

begun_dotless : (b : ℕ) (ps : List (List ℕ)) → (b ≡ 46 → ⊥) → AreDotless ps → AreDotless (begun b ps)
begun_dotless b [] other are = ((other, tt), tt)
begun_dotless b (p ∷ ps) other are = ((other, are.0), are.1)

either_dotless : (t : Bool) (b : ℕ) (ps : List (List ℕ)) → (t ≡ false → b ≡ 46 → ⊥) → AreDotless ps → AreDotless (cond t ([] ∷ ps) (begun b ps))
either_dotless true b ps other are = (tt, are)
either_dotless false b ps other are = begun_dotless b ps (other refl) are

pub parts_dotless : (text : List ℕ) → AreDotless (parts text)
parts_dotless [] = (tt, tt)
parts_dotless (b ∷ text) = either_dotless (eqb b 46) b (parts text) (eqb-false b 46) (parts_dotless text)
