-- Texts: what is read is spelled so, and what is spelled so is read.
use Rattle.std.proofs.Common.{◌≡◌, ℕ, ◌<◌, true, false, eqb, ltb, List, [], ◌∷◌, ◌++◌, Ok, refl, ap, subst, arith, inl, inr}
use Rattle.std.proofs.lemmas.Bool.{ltb-true, eqb-true, eqb-false, lt-ltb, ne_eqb}
use Rattle.acpi_term.specs.Name.{IsText}
use Rattle.acpi_term.specs.Reading.{Bad, text_at}
use Rattle.acpi_term.proofs.Steps.{bind_ok, ok_is, chosen, admitted}

end_parts : (b : ℕ) (more : List ℕ) → b ≡ 0 → b ∷ more ≡ [] ++ 0 ∷ more
end_parts b more is = rw is refl

pub text_takes : (bytes s rest : List ℕ) → text_at bytes ≡ Ok (s, rest) → IsText s × (bytes ≡ s ++ 0 ∷ rest)
unfolding text_at
text_takes [] s rest e = absurd cc
text_takes (b ∷ more) s rest e =
    elim (chosen (eqb b 0) _ _ _ e) [
      | inl w ↦ subst (λ (p : List ℕ × List ℕ). IsText p.0 × (b ∷ more ≡ p.0 ++ 0 ∷ p.1)) (ok_is {A = List ℕ × List ℕ} ([], more) (s, rest) w.1) (tt, end_parts b more (eqb-true b 0 w.0))
      | inr w ↦
          let g = admitted (ltb b 128) Bad _ (s, rest) w.1 in
          let a = bind_ok (text_at more) (λ t. Ok (b ∷ t.0, t.1)) (s, rest) g.1 in
          let t = text_takes more a.0.0 a.0.1 a.1 in
          let some = eqb-false b 0 w.0 in
          let low : b < 128 = ltb-true b 128 g.0 in
          let pos : 0 < b = omega arith in
          subst (λ (p : List ℕ × List ℕ). IsText p.0 × (b ∷ more ≡ p.0 ++ 0 ∷ p.1)) (ok_is {A = List ℕ × List ℕ} (b ∷ a.0.0, a.0.1) (s, rest) a.2) ((pos, low, t.0), ap (λ (l : List ℕ). b ∷ l) t.1)
    ]

pub text_again : (s rest : List ℕ) → IsText s → text_at (s ++ 0 ∷ rest) ≡ Ok (s, rest)
unfolding text_at
text_again [] rest f = refl
text_again (b ∷ s) rest f =
    let some : eqb b 0 ≡ false = ne_eqb b 0 (λ z. omega (arith, z, f.0)) in
    let low : ltb b 128 ≡ true = lt-ltb b 128 f.1 in
    rw (some, low, text_again s rest f.2) refl
