-- Pieces of text one after another.
use Rattle.std.proofs.Common.{◌≡◌, ℕ, zero, suc, ◌+◌, ◌-◌, ◌≤◌, List, [], ◌∷◌, ◌++◌, length, get_or, take, drop, refl, sym, ap, ◌∙◌, append_assoc, arith}
use Rattle.std.proofs.lemmas.List.{append-nil, take_rest}
use Rattle.acpi_read.proofs.Texts.{after_two, after_four}
use Rattle.std.specs.Prelude.{Bool, true}
use Rattle.acpi_asl.specs.Name.{dot_text, segment_text, segments_text}
use Rattle.acpi_asl.specs.Place.{spaces}

pub after_five : (old a b c d e one two three four new : List ℕ) → one ≡ old ++ a → two ≡ one ++ b → three ≡ two ++ c → four ≡ three ++ d → new ≡ four ++ e → new ≡ old ++ ((((a ++ b) ++ c) ++ d) ++ e)
after_five old a b c d e one two three four new p q r s t = after_two old (((a ++ b) ++ c) ++ d) e four new (after_four old a b c d one two three four p q r s) t

-- a loop goes on by one piece
pub goes_on_by : (goal old one rest all new : List ℕ) → old ++ all ≡ goal → all ≡ one ++ rest → new ≡ old ++ one → new ++ rest ≡ goal
goes_on_by goal old one rest all new so_far step added =
    ap (λ (l : List ℕ). l ++ rest) added ∙ append_assoc old one rest ∙ ap (λ (l : List ℕ). old ++ l) (sym step) ∙ so_far

-- and ends
pub ends_by : (goal now rest : List ℕ) → now ++ rest ≡ goal → rest ≡ [] → now ≡ goal
ends_by goal now rest so_far none = sym (append-nil now) ∙ ap (λ (l : List ℕ). now ++ l) (sym none) ∙ so_far

-- ---- indentations

spaces_last : (d : ℕ) → spaces d ++ (32 ∷ 32 ∷ 32 ∷ 32 ∷ []) ≡ spaces (suc d)
spaces_last zero = refl
spaces_last (suc d) = ap (λ (l : List ℕ). 32 ∷ 32 ∷ 32 ∷ 32 ∷ l) (spaces_last d)

pub spaces_more : (d : ℕ) (old now new : List ℕ) → now ≡ old ++ spaces d → new ≡ now ++ (32 ∷ 32 ∷ 32 ∷ 32 ∷ []) → new ≡ old ++ spaces (d + 1)
spaces_more d old now new is added =
    let more : suc d ≡ d + 1 = omega arith in
    after_two old (spaces d) (32 ∷ 32 ∷ 32 ∷ 32 ∷ []) now new is added ∙ ap (λ (l : List ℕ). old ++ l) (spaces_last d) ∙ ap (λ (k : ℕ). old ++ spaces k) more

-- ---- names

parts_step : (follows : Bool) (s : List ℕ) → 4 ≤ length s → segments_text follows s ≡ dot_text follows ++ segment_text (get_or s 0 0) (get_or s 1 0) (get_or s 2 0) (get_or s 3 0) ++ segments_text true (drop 4 s)
parts_step follows [] some = absurd (omega (arith, some))
parts_step follows (a ∷ []) some = absurd (omega (arith, some))
parts_step follows (a ∷ b ∷ []) some = absurd (omega (arith, some))
parts_step follows (a ∷ b ∷ c ∷ []) some = absurd (omega (arith, some))
parts_step follows (a ∷ b ∷ c ∷ d ∷ rest) some = refl

-- the same where the rest is taken by its length
pub segments_step : (follows : Bool) (s : List ℕ) → 4 ≤ length s → segments_text follows s ≡ dot_text follows ++ segment_text (get_or s 0 0) (get_or s 1 0) (get_or s 2 0) (get_or s 3 0) ++ segments_text true (take (length s - 4) (drop 4 s))
segments_step follows s some =
    let front : List ℕ = dot_text follows ++ segment_text (get_or s 0 0) (get_or s 1 0) (get_or s 2 0) (get_or s 3 0) in
    parts_step follows s some ∙ ap (λ (l : List ℕ). front ++ segments_text true l) (sym (take_rest s 4))
