-- Numbers in any width: what is read is spelled so, and what is spelled so is read.
use Rattle.std.proofs.Common.{◌≡◌, ℕ, zero, suc, ◌^◌, ◌<◌, ◌≤◌, true, false, ltb, eqb, List, [], ◌∷◌, ◌++◌, Ok, refl, subst, arith, inl, inr}
use Rattle.std.proofs.lemmas.Bool.{ltb-true, lt-ltb, eqb-true, ne_eqb}
use Rattle.std.proofs.lemmas.Bool.Decides.{nat_tests}
use Rattle.acpi_base.specs.Bytes.{AreBytes}
use Rattle.acpi_base.specs.Number.{prefix, number_limit, number_bytes}
use Rattle.acpi_term.specs.Reading.{Bad, high_at, constant_in, constant_at}
use Rattle.acpi_term.proofs.Steps.{bind_ok, ok_is, chosen, admitted}
use Rattle.acpi_term.proofs.Frames.{IsHigh, high_takes, high_again}

pub number_limit_few : (w : ℕ) → 9 ≤ w → number_limit w ≡ 0
number_limit_few w ge = grind (arith, nat_tests)

-- a number that was read, and the bytes after it
pub record IsConstant (bytes : List ℕ) (v w : ℕ) (rest : List ℕ) : Type 0 where
  pub parts : bytes ≡ number_bytes v w ++ rest
  pub fits : v < number_limit w
  pub top : v < 2 ^ 64
  pub rest_fits : AreBytes rest

small_is : (b : ℕ) (rest : List ℕ) → b < 2 → AreBytes rest → IsConstant (b ∷ rest) b 0 rest
small_is b rest lt fits = record { parts = refl; fits = lt; top = omega arith; rest_fits = fits }

wide_is : (b w v : ℕ) (bytes rest : List ℕ) → b ≡ prefix w → (w ≡ 0 → ⊥) → 256 ^ w ≤ number_limit w → number_limit w ≤ 2 ^ 64 → IsHigh w v bytes rest → IsConstant (b ∷ bytes) v w rest
wide_is b w v bytes rest is some fits top t =
    let wide : eqb w 0 ≡ false = ne_eqb w 0 some in
    record { parts = rw (wide, is, t.parts) refl; fits = omega (arith, t.below, fits); top = omega (arith, t.below, fits, top); rest_fits = t.fits }

wide_takes : (b w : ℕ) (bytes : List ℕ) (x : ℕ × ℕ × List ℕ) → b ≡ prefix w → (w ≡ 0 → ⊥) → 256 ^ w ≤ number_limit w → number_limit w ≤ 2 ^ 64 → AreBytes bytes → constant_in w bytes ≡ Ok x → IsConstant (b ∷ bytes) x.0 x.1 x.2
wide_takes b w bytes x is some fits top bs e =
    let h = bind_ok (high_at w bytes) (λ h. Ok (h.0, w, h.1)) x e in
    subst (λ (y : ℕ × ℕ × List ℕ). IsConstant (b ∷ bytes) y.0 y.1 y.2) (ok_is {A = ℕ × ℕ × List ℕ} (h.0.0, w, h.0.1) x h.2) (wide_is b w h.0.0 bytes h.0.1 is some fits top (high_takes w bytes h.0 bs h.1))

pub constant_takes : (bytes : List ℕ) (x : ℕ × ℕ × List ℕ) → AreBytes bytes → constant_at bytes ≡ Ok x → IsConstant bytes x.0 x.1 x.2
unfolding constant_at
constant_takes [] x fits e = absurd cc
constant_takes (b ∷ more) x fits e =
    elim (chosen (ltb b 2) _ _ _ e) [
      | inl u ↦ subst (λ (y : ℕ × ℕ × List ℕ). IsConstant (b ∷ more) y.0 y.1 y.2) (ok_is {A = ℕ × ℕ × List ℕ} (b, 0, more) x u.1) (small_is b more (ltb-true b 2 u.0) fits.1)
      | inr u ↦ elim (chosen (eqb b 10) _ _ _ u.1) [
        | inl v ↦ wide_takes b 1 more x (eqb-true b 10 v.0) (λ z. cc) (omega arith) (omega arith) fits.1 v.1
        | inr v ↦ elim (chosen (eqb b 11) _ _ _ v.1) [
          | inl y ↦ wide_takes b 2 more x (eqb-true b 11 y.0) (λ z. cc) (omega arith) (omega arith) fits.1 y.1
          | inr y ↦ elim (chosen (eqb b 12) _ _ _ y.1) [
            | inl z ↦ wide_takes b 4 more x (eqb-true b 12 z.0) (λ z. cc) (omega arith) (omega arith) fits.1 z.1
            | inr z ↦ let a = admitted (eqb b 14) Bad _ x z.1 in wide_takes b 8 more x (eqb-true b 14 a.0) (λ z. cc) (omega arith) (omega arith) fits.1 a.1
          ]
        ]
      ]
    ]

pub constant_again : (v w : ℕ) (rest : List ℕ) → v < number_limit w → constant_at (number_bytes v w ++ rest) ≡ Ok (v, w, rest)
unfolding constant_at
constant_again v zero rest fits = let small : ltb v 2 ≡ true = lt-ltb v 2 fits in rw small refl
constant_again v (suc zero) rest fits = rw (high_again 1 v rest fits) refl
constant_again v (suc (suc zero)) rest fits = rw (high_again 2 v rest fits) refl
constant_again v (suc (suc (suc zero))) rest fits = absurd (omega arith)
constant_again v (suc (suc (suc (suc zero)))) rest fits = rw (high_again 4 v rest fits) refl
constant_again v (suc (suc (suc (suc (suc zero))))) rest fits = absurd (omega arith)
constant_again v (suc (suc (suc (suc (suc (suc zero)))))) rest fits = absurd (omega arith)
constant_again v (suc (suc (suc (suc (suc (suc (suc zero))))))) rest fits = absurd (omega arith)
constant_again v (suc (suc (suc (suc (suc (suc (suc (suc zero)))))))) rest fits = rw (high_again 8 v rest fits) refl
constant_again v (suc (suc (suc (suc (suc (suc (suc (suc (suc w))))))))) rest fits =
    absurd (omega (arith, number_limit_few (suc (suc (suc (suc (suc (suc (suc (suc (suc w))))))))) (omega arith)))
