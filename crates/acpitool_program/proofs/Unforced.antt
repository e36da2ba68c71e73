-- The words of `make` but `--force`.
use Rattle.std.proofs.Common.{◌≡◌, ℕ, zero, suc, ◌-◌, ◌≤◌, true, false, List, [], ◌∷◌, length, Some, None, refl, ap, ◌∙◌, arith}
use Rattle.std.specs.List.{slice_get}
use Rattle.acpitool_program.specs.Command.{is_force, unforced}

-- an element after the first
later : (x : List ℕ) (l : List (List ℕ)) (n : ℕ) → 1 ≤ n → slice_get (x ∷ l) n ≡ slice_get l (n - 1)
later x l zero some = absurd (omega (arith, some))
later x l (suc n) some = let e : n ≡ suc n - 1 = omega arith in ap (λ k. slice_get l k) e

-- a word that is `--force` is none of them
pub passed_over : (word : List ℕ) (l : List (List ℕ)) (n : ℕ) → is_force word ≡ true
    → slice_get (unforced (word ∷ l)) n ≡ slice_get (unforced l) n
passed_over word l n is = rw is refl

-- another word is the first, and one less is left after it
pub counted : (word : List ℕ) (l : List (List ℕ)) (n : ℕ) → is_force word ≡ false → 1 ≤ n
    → slice_get (unforced (word ∷ l)) n ≡ slice_get (unforced l) (n - 1)
counted word l n is some = rw is (later word (unforced l) n some)

pub is_first : (word : List ℕ) (l : List (List ℕ)) (n : ℕ) → is_force word ≡ false → n ≡ 0 → slice_get (unforced (word ∷ l)) n ≡ Some word
is_first word l n is none = ap (λ k. slice_get (unforced (word ∷ l)) k) none ∙ rw is refl

-- ---- how many there are

pub no_word : (l : List (List ℕ)) → slice_get l 0 ≡ None → l ≡ []
no_word [] none = refl
no_word (x ∷ l) none = absurd (cc (none))

pub one_word : (l : List (List ℕ)) (a : List ℕ) → slice_get l 0 ≡ Some a → slice_get l 1 ≡ None → length l ≡ 1
one_word [] a one none = absurd (cc (one))
one_word (x ∷ []) a one none = refl
one_word (x ∷ y ∷ l) a one none = absurd (cc (none))

pub two_words : (l : List (List ℕ)) (a b : List ℕ) → slice_get l 0 ≡ Some a → slice_get l 1 ≡ Some b → slice_get l 2 ≡ None
    → l ≡ a ∷ b ∷ []
two_words [] a b one two none = absurd (cc (one))
two_words (x ∷ []) a b one two none = absurd (cc (two))
two_words (x ∷ y ∷ []) a b one two none =
    let first : x ≡ a = cc (one) in
    let second : y ≡ b = cc (two) in
    ap (λ z. z ∷ y ∷ []) first ∙ ap (λ z. a ∷ z ∷ []) second
two_words (x ∷ y ∷ z ∷ l) a b one two none = absurd (cc (none))

pub three_words : (l : List (List ℕ)) (a b d : List ℕ) → slice_get l 0 ≡ Some a → slice_get l 1 ≡ Some b → slice_get l 2 ≡ Some d
    → (others : List (List ℕ)) × (l ≡ a ∷ b ∷ d ∷ others)
three_words [] a b d one two three = absurd (cc (one))
three_words (x ∷ []) a b d one two three = absurd (cc (two))
three_words (x ∷ y ∷ []) a b d one two three = absurd (cc (three))
three_words (x ∷ y ∷ z ∷ l) a b d one two three =
    let first : x ≡ a = cc (one) in
    let second : y ≡ b = cc (two) in
    let third : z ≡ d = cc (three) in
    (l, ap (λ w. w ∷ y ∷ z ∷ l) first ∙ ap (λ w. a ∷ w ∷ z ∷ l) second ∙ ap (λ w. a ∷ b ∷ w ∷ l) third)
