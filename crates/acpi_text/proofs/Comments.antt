-- Comments line by line, and that they have no bytes.
use Rattle.std.proofs.Common.{◌≡◌, ℕ, zero, suc, ◌<◌, ◌==◌, true, false, List, [], ◌∷◌, ◌++◌, length, get_or, take, subst, refl, ap, sym, ◌∙◌, append_assoc, codes, rules, arith}
use Rattle.std.specs.List.{position_or_len, before_first, after_first}
use Rattle.std.proofs.Math.Seq.{take-length}
use Rattle.std.proofs.lemmas.List.Sums.{split_at_first, passes_at_first, fails_before_first}
use Rattle.acpi_text.specs.Comment.{commented, comment}
use Rattle.acpi_text.specs.Reading.{Has, read, at_start, in_comment}

-- no byte ends a line
abbrev pub IsLine : List ℕ → Type 0
IsLine [] = Unit {0}
IsLine (c ∷ line) = ((c == 10) ≡ false) × IsLine line

-- ---- line by line

within_line : (line rest : List ℕ) → IsLine line → commented false (line ++ 10 ∷ rest) ≡ line ++ 10 ∷ commented true rest
within_line [] rest one = refl
within_line (c ∷ line) rest one = rw (one.0) (ap (λ l. c ∷ l) (within_line line rest one.1))

-- a line and those after it
line_and : (line rest : List ℕ) → IsLine line
    → comment (line ++ 10 ∷ rest) ≡ codes "// " ++ (line ++ 10 ∷ []) ++ comment rest
line_and [] rest one = refl
line_and (c ∷ line) rest one =
    rw (one.0) (ap (λ l. codes "// " ++ (c ∷ l)) (within_line line rest one.1 ∙ sym (append_assoc line (10 ∷ []) (commented true rest))))

last_within : (line : List ℕ) → IsLine line → commented false line ≡ line ++ 10 ∷ []
last_within [] one = refl
last_within (c ∷ line) one = rw (one.0) (ap (λ l. c ∷ l) (last_within line one.1))

-- the last line, if no byte ends it
last_line : (line : List ℕ) → IsLine line → 0 < length line → comment line ≡ codes "// " ++ (line ++ 10 ∷ [])
last_line [] one some = absurd (omega (arith, some))
last_line (c ∷ line) one some = rw (one.0) (ap (λ l. codes "// " ++ (c ∷ l)) (last_within line one.1))

-- ---- cut at the first end of a line

-- no byte before a place ends a line
line_take : (text : List ℕ) (n : ℕ) → ((k : ℕ) → k < n → (get_or text k 0 == 10) ≡ false) → IsLine (take n text)
line_take [] zero none = tt
line_take [] (suc n) none = tt
line_take (c ∷ text) zero none = tt
line_take (c ∷ text) (suc n) none = (none 0 (omega arith), line_take text n (λ k lt. none (suc k) (omega (arith, lt))))

same_of : {m n : ℕ} → (m == n) ≡ true → m ≡ n
same_of is = search (rules, is)

-- a text from its first line on
pub cut_comment : (text : List ℕ) → position_or_len (λ b. b == 10) text < length text
    → comment text ≡ codes "// " ++ (before_first (λ b. b == 10) text ++ 10 ∷ []) ++ comment (after_first (λ b. b == 10) text)
cut_comment text within =
    let at = split_at_first (λ b. b == 10) text 0 within in
    let ten : get_or text (position_or_len (λ b. b == 10) text) 0 ≡ 10 =
    same_of (passes_at_first (λ b. b == 10) text 0 within) in
    ap comment at
    ∙ ap (λ n. comment (before_first (λ b. b == 10) text ++ (n ∷ after_first (λ b. b == 10) text))) ten
    ∙ line_and (before_first (λ b. b == 10) text) (after_first (λ b. b == 10) text) (line_take text _ (λ k lt. fails_before_first (λ b. b == 10) text k 0 lt))

-- The front line of a text was added, and the comments of the others are still to come.
pub comment_goes_on : (rest line more text new whole : List ℕ)
    → line ≡ before_first (λ b. b == 10) rest → more ≡ after_first (λ b. b == 10) rest
    → position_or_len (λ b. b == 10) rest < length rest
    → new ≡ text ++ (codes "// " ++ (line ++ 10 ∷ [])) → text ++ comment rest ≡ whole → new ++ comment more ≡ whole
comment_goes_on rest line more text new whole front back within added before =
    let cut : comment rest ≡ codes "// " ++ (line ++ 10 ∷ []) ++ comment more = rw (front, back) (cut_comment rest within) in
    ap (λ l. l ++ comment more) added
    ∙ append_assoc text (codes "// " ++ (line ++ 10 ∷ [])) (comment more)
    ∙ ap (λ l. text ++ l) (sym cut)
    ∙ before

-- a text of one line
pub one_comment : (text : List ℕ) → position_or_len (λ b. b == 10) text ≡ length text → 0 < length text
    → comment text ≡ codes "// " ++ (text ++ 10 ∷ [])
one_comment text at some =
    let all : IsLine (take (length text) text) = line_take text (length text) (λ k lt. fails_before_first (λ b. b == 10) text k 0 (omega (arith, lt, at))) in
    last_line text (subst IsLine (take-length text) all) some

-- ---- no bytes

mutual
  from_within : (text more : List ℕ) → read in_comment (commented false text ++ more) ≡ read at_start more
  from_within [] more = refl
  from_within (c ∷ text) more =
      elim (c == 10) as (λ v. (c == 10) ≡ v → read in_comment (commented false (c ∷ text) ++ more) ≡ read at_start more) [
        | true ↦ λ is. rw is (from_start text more)
        | false ↦ λ is. rw is (from_within text more)
      ] refl

  from_start : (text more : List ℕ) → read at_start (commented true text ++ more) ≡ read at_start more
  from_start [] more = refl
  from_start (c ∷ text) more =
      elim (c == 10) as (λ v. (c == 10) ≡ v → read at_start (commented true (c ∷ text) ++ more) ≡ read at_start more) [
        | true ↦ λ is. rw is (from_start text more)
        | false ↦ λ is. rw is (from_within text more)
      ] refl

pub comment_has : (text : List ℕ) → Has (comment text) []
comment_has text = record { reads = λ more. from_start text more }
