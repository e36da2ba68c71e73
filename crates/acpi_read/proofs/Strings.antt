-- Strings, read a byte after the other as a loop does.
use Rattle.std.proofs.Common.{◌≡◌, ℕ, ◌<◌, ◌≤◌, List, [], ◌∷◌, ◌++◌, Ok, Err, refl, ap, ◌∙◌}
use Rattle.std.proofs.lemmas.Bool.{lt-ltb, le-ltb, ne_eqb}
use Rattle.std.proofs.lemmas.List.{append-nil}
use Rattle.acpi_term.specs.Reading.{Bad, text_at}
use Rattle.acpi_read.proofs.After.{after_front, whole, regrouped}

-- the text that was read, and what is still to be read
pub record TextRead (bytes front rest : List ℕ) : Type 0 where
  pub is : text_at bytes ≡ after_front front (text_at rest)

pub text_begins : (bytes : List ℕ) → TextRead bytes [] bytes
text_begins bytes = record { is = whole (text_at bytes) }

pub text_goes_on : (bytes front rest after : List ℕ) (b : ℕ) → rest ≡ b ∷ after → (b ≡ 0 → ⊥) → b < 128 → TextRead bytes front rest → TextRead bytes (front ++ b ∷ []) after
unfolding text_at
text_goes_on bytes front rest after b is some low so_far =
    let one : text_at rest ≡ after_front (b ∷ []) (text_at after) = rw (is, ne_eqb b 0 some, lt-ltb b 128 low) refl in
    record { is = so_far.is ∙ ap (after_front front) one ∙ regrouped front (b ∷ []) (text_at after) }

pub text_ends : (bytes front rest after : List ℕ) (b : ℕ) → rest ≡ b ∷ after → b ≡ 0 → TextRead bytes front rest → text_at bytes ≡ Ok (front, after)
unfolding text_at
text_ends bytes front rest after b is zero so_far = so_far.is ∙ rw (is, zero) (ap (λ (l : List ℕ). Ok (l, after)) (append-nil front))

pub text_is_refused : (bytes front rest after : List ℕ) (b : ℕ) → rest ≡ b ∷ after → (b ≡ 0 → ⊥) → 128 ≤ b → TextRead bytes front rest → text_at bytes ≡ Err Bad
unfolding text_at
text_is_refused bytes front rest after b is some high so_far = so_far.is ∙ rw (is, ne_eqb b 0 some, le-ltb b 128 high) refl

pub text_is_cut : (bytes front rest : List ℕ) → rest ≡ [] → TextRead bytes front rest → text_at bytes ≡ Err Bad
unfolding text_at
text_is_cut bytes front rest none so_far = so_far.is ∙ rw none refl
