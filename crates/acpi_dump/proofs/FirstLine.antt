-- The first line of a text.
use Rattle.std.proofs.Common.{◌≡◌, ℕ, suc, ◌+◌, ◌<◌, ◌==◌, Bool, true, false, if◌then◌else◌, List, [], ◌∷◌, length, take, drop, refl, ap, ◌∙◌, sym, arith, add-one, ◌-◌, ◌≤◌}
use Rattle.std.proofs.lemmas.List.{take_rest, take_all, drop_all}
use Rattle.std.specs.List.{onto_first}
use Rattle.acpi_dump.specs.Lines.{lines, line_len}

-- the first line of a text, by whether its first byte is a line feed
abbrev IsFirst : ℕ → List ℕ → Bool → Type 0
IsFirst c text feed =
    (if feed then [] ∷ lines text else onto_first c (lines text))
    ≡ take (if feed then 0 else suc (line_len text)) (c ∷ text) ∷ lines (drop (suc (if feed then 0 else suc (line_len text))) (c ∷ text))

pub first_line : (text : List ℕ) → 0 < length text → lines text ≡ take (line_len text) text ∷ lines (drop (suc (line_len text)) text)
first_line [] h = absurd (omega arith)
first_line (c ∷ []) h = elim (c == 10) as (IsFirst c []) [ true ↦ refl | false ↦ refl ]
first_line (c ∷ d ∷ text) h =
    let more = first_line (d ∷ text) (omega arith) in
    elim (c == 10) as (IsFirst c (d ∷ text)) [ true ↦ refl | false ↦ ap (onto_first c) more ]

module _ (text : List ℕ) (n : ℕ) (is : n ≡ line_len text) (some : 0 < length text) where
  here : lines text ≡ take n text ∷ lines (drop (suc n) text)
  here = first_line text some ∙ ap (λ (k : ℕ). take k text ∷ lines (drop (suc k) text)) (sym is)

  pub before_feed : lines text ≡ take n text ∷ lines (take (length text - (n + 1)) (drop (n + 1) text))
  before_feed =
      let after : drop (suc n) text ≡ drop (n + 1) text = ap (λ (k : ℕ). drop k text) (sym (add-one n)) in
      here ∙ ap (λ (l : List ℕ). take n text ∷ lines l) (after ∙ sym (take_rest text (n + 1)))

  pub without_feed : length text ≤ n → lines text ≡ text ∷ lines (take (length text - length text) (drop (length text) text))
  without_feed past =
      let none : drop (suc n) text ≡ [] = drop_all (suc n) text (omega arith) in
      let end : take (length text - length text) (drop (length text) text) ≡ []
      = take_rest text (length text) ∙ drop_all (length text) text (omega arith) in
      here
      ∙ ap (λ (l : List ℕ). l ∷ lines (drop (suc n) text)) (take_all n text past)
      ∙ ap (λ (l : List ℕ). text ∷ lines l) (none ∙ sym end)
