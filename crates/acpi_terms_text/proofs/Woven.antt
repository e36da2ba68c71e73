-- Lines and their comments, one after the other.
use Rattle.std.proofs.Common.{◌≡◌, ℕ, zero, suc, ◌<◌, ◌==◌, true, false, List, [], ◌∷◌, ◌++◌, length, get_or, take, drop, map, ◌+◌, ◌≤◌, subst, refl, ap, sym, ◌∙◌, append_assoc, rules, arith}
use Rattle.std.specs.List.{position_or_len, before_first, after_first}
use Rattle.std.proofs.Math.Seq.{take-length}
use Rattle.std.proofs.lemmas.Bool.{ne_eqb}
use Rattle.std.proofs.lemmas.Bool.Decides.{nat_tests}
use Rattle.std.proofs.lemmas.List.Sums.{split_at_first, passes_at_first, fails_before_first}
use Rattle.acpi_read.proofs.Texts.{dropped, past}
use Rattle.acpi_terms_text.specs.Comment.{comment}
use Rattle.acpi_terms_text.specs.Woven.{woven}
use Rattle.acpi_terms_text.specs.Laws.{IsOneLine}

-- ---- line by line

pub woven_line : (line rest n : List ℕ) (notes : List (List ℕ)) → IsOneLine line
    → woven (line ++ 10 ∷ rest) (n ∷ notes) ≡ line ++ (comment n ++ (10 ∷ woven rest notes))
woven_line [] rest n notes one = refl
woven_line (c ∷ line) rest n notes one = rw (ne_eqb c 10 one.0) (ap (λ (l : List ℕ). c ∷ l) (woven_line line rest n notes one.1))

pub woven_end : (text : List ℕ) → woven text [] ≡ text
woven_end [] = refl
woven_end (c ∷ text) = refl

woven_whole : (text : List ℕ) (notes : List (List ℕ)) → IsOneLine text → woven text notes ≡ text
woven_whole [] notes one = refl
woven_whole (c ∷ text) [] one = refl
woven_whole (c ∷ text) (n ∷ notes) one = rw (ne_eqb c 10 one.0) (ap (λ (l : List ℕ). c ∷ l) (woven_whole text (n ∷ notes) one.1))

-- ---- cut at the first end of a line

not_ten : (c : ℕ) → (c == 10) ≡ false → c ≡ 10 → ⊥
not_ten c is = λ e. absurd (grind (arith, nat_tests, e))

line_take : (text : List ℕ) (n : ℕ) → ((k : ℕ) → k < n → (get_or text k 0 == 10) ≡ false) → IsOneLine (take n text)
line_take [] zero none = tt
line_take [] (suc n) none = tt
line_take (c ∷ text) zero none = tt
line_take (c ∷ text) (suc n) none = (not_ten c (none 0 (omega arith)), line_take text n (λ k lt. none (suc k) (omega (arith, lt))))

same_of : {m n : ℕ} → (m == n) ≡ true → m ≡ n
same_of is = search (rules, is)

-- The first line of a text was added with its comment.
pub first_added : (lines line rest n old new : List ℕ)
    → line ≡ before_first (λ b. b == 10) lines → rest ≡ after_first (λ b. b == 10) lines
    → position_or_len (λ b. b == 10) lines < length lines
    → new ≡ old ++ (line ++ (comment n ++ 10 ∷ []))
    → (notes : List (List ℕ)) → new ++ woven rest notes ≡ old ++ woven lines (n ∷ notes)
first_added lines line rest n old new front back within added notes =
    let cut = split_at_first (λ b. b == 10) lines 0 within in
    let ten : get_or lines (position_or_len (λ b. b == 10) lines) 0 ≡ 10 = same_of (passes_at_first (λ b. b == 10) lines 0 within) in
    let one : IsOneLine (before_first (λ b. b == 10) lines) = line_take lines _ (λ k lt. fails_before_first (λ b. b == 10) lines k 0 lt) in
    let is : woven lines (n ∷ notes) ≡ line ++ (comment n ++ (10 ∷ woven rest notes)) =
    ap (λ (l : List ℕ). woven l (n ∷ notes)) cut
    ∙ ap (λ (b : ℕ). woven (before_first (λ b. b == 10) lines ++ (b ∷ after_first (λ b. b == 10) lines)) (n ∷ notes)) ten
    ∙ woven_line (before_first (λ b. b == 10) lines) (after_first (λ b. b == 10) lines) n notes one
    ∙ ap (λ (l : List ℕ). l ++ (comment n ++ (10 ∷ woven (after_first (λ b. b == 10) lines) notes))) (sym front)
    ∙ ap (λ (l : List ℕ). line ++ (comment n ++ (10 ∷ woven l notes))) (sym back)
    in
    ap (λ (l : List ℕ). l ++ woven rest notes) added
    ∙ append_assoc old (line ++ (comment n ++ 10 ∷ [])) (woven rest notes)
    ∙ ap (λ (l : List ℕ). old ++ l) (append_assoc line (comment n ++ 10 ∷ []) (woven rest notes) ∙ ap (λ (l : List ℕ). line ++ l) (append_assoc (comment n) (10 ∷ []) (woven rest notes)) ∙ sym is)

-- A text of one line stays.
pub nothing_added : (lines n old : List ℕ) → position_or_len (λ b. b == 10) lines ≡ length lines
    → (notes : List (List ℕ)) → old ++ woven lines notes ≡ old ++ woven lines (n ∷ notes)
nothing_added lines n old at notes =
    let all : IsOneLine (take (length lines) lines) = line_take lines (length lines) (λ k lt. fails_before_first (λ b. b == 10) lines k 0 (omega (arith, lt, at))) in
    let one : IsOneLine lines = subst IsOneLine (take-length lines) all in
    ap (λ (l : List ℕ). old ++ l) (woven_whole lines notes one ∙ sym (woven_whole lines (n ∷ notes) one))

-- ---- all lines

module _ {X : Type 0} (said : X → List ℕ) (notes : List X) (i : ℕ) (rest text whole : List ℕ) (before : text ++ woven rest (map said (drop i notes)) ≡ whole) where
  pub woven_on : (note : X) (more new : List ℕ) → i < length notes → note ≡ get_or notes i note
      → ((ns : List (List ℕ)) → new ++ woven more ns ≡ text ++ woven rest (said note ∷ ns))
      → new ++ woven more (map said (drop (i + 1) notes)) ≡ whole
  woven_on note more new inside is added =
      added (map said (drop (i + 1) notes)) ∙ ap (λ (l : List X). text ++ woven rest (map said l)) (sym (dropped notes i note inside is)) ∙ before

  pub woven_done : (new : List ℕ) → length notes ≤ i → new ≡ text ++ rest → new ≡ whole
  woven_done new all added =
      added ∙ ap (λ (l : List ℕ). text ++ l) (sym (woven_end rest)) ∙ ap (λ (l : List X). text ++ woven rest (map said l)) (sym (past notes i all)) ∙ before
