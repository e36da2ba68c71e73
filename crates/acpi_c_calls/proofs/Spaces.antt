-- Words between spaces.
use Rattle.std.proofs.Common.{◌≡◌, ◌≢◌, ℕ, zero, suc, ◌<◌, ◌==◌, true, false, List, [], ◌∷◌, ◌++◌, length, get_or, take, subst, refl, ap, sym, ◌∙◌, rules, arith}
use Rattle.std.specs.List.{position_or_len, before_first, after_first}
use Rattle.std.proofs.Math.Seq.{take-length}
use Rattle.std.proofs.lemmas.List.Sums.{split_at_first, passes_at_first, fails_before_first}
use Rattle.acpi_c_calls.specs.Aml.{begun, words}

abbrev AreOther : List ℕ → Type 0
AreOther [] = Unit {0}
AreOther (c ∷ text) = ((c == 32) ≡ false) × AreOther text

words_past : (word rest : List ℕ) → AreOther word → words (word ++ 32 ∷ rest) ≡ word ∷ words rest
words_past [] rest one = refl
words_past (c ∷ word) rest one = rw one.0 (ap (begun c) (words_past word rest one.1))

words_once : (c : ℕ) (text : List ℕ) → (c == 32) ≡ false → AreOther text → words (c ∷ text) ≡ (c ∷ text) ∷ []
words_once c [] other one = rw other refl
words_once c (d ∷ text) other one = rw other (ap (begun c) (words_once d text one.0 one.1))

other_take : (text : List ℕ) (n : ℕ) → ((k : ℕ) → k < n → (get_or text k 0 == 32) ≡ false) → AreOther (take n text)
other_take [] zero none = tt
other_take [] (suc n) none = tt
other_take (c ∷ text) zero none = tt
other_take (c ∷ text) (suc n) none = (none 0 (omega arith), other_take text n (λ k lt. none (suc k) (omega (arith, lt))))

same_of : {m n : ℕ} → (m == n) ≡ true → m ≡ n
same_of is = search (rules, is)

-- a space ends the first word
pub first : (text word rest : List ℕ) → word ≡ before_first (λ b. b == 32) text → rest ≡ after_first (λ b. b == 32) text
    → position_or_len (λ b. b == 32) text < length text → words text ≡ word ∷ words rest
first text word rest front back within =
    let cut = split_at_first (λ b. b == 32) text 0 within in
    let space : get_or text (position_or_len (λ b. b == 32) text) 0 ≡ 32 = same_of (passes_at_first (λ b. b == 32) text 0 within) in
    let one : AreOther (before_first (λ b. b == 32) text) = other_take text _ (λ k lt. fails_before_first (λ b. b == 32) text k 0 lt) in
    ap words cut
    ∙ ap (λ (b : ℕ). words (before_first (λ b. b == 32) text ++ (b ∷ after_first (λ b. b == 32) text))) space
    ∙ words_past (before_first (λ b. b == 32) text) (after_first (λ b. b == 32) text) one
    ∙ ap (λ (l : List ℕ). l ∷ words (after_first (λ b. b == 32) text)) (sym front)
    ∙ ap (λ (l : List ℕ). word ∷ words l) (sym back)

only_of : (text : List ℕ) → text ≢ [] → AreOther text → words text ≡ text ∷ []
only_of [] some one = absurd (some refl)
only_of (c ∷ text) some one = words_once c text one.0 one.1

-- a text without a space is one word
pub only : (text : List ℕ) → text ≢ [] → position_or_len (λ b. b == 32) text ≡ length text → words text ≡ text ∷ []
only text some at =
    let every : AreOther (take (length text) text) = other_take text (length text) (λ k lt. fails_before_first (λ b. b == 32) text k 0 (omega (arith, lt, at))) in
    only_of text some (subst AreOther (take-length text) every)
