-- Lines without characters that end lines.
use Rattle.std.proofs.Common.{◌≡◌, ◌≢◌, ℕ, zero, suc, ◌-◌, ◌==◌, ◌&&◌, not, Bool, true, false, if◌then◌else◌, List, [], ◌∷◌, ◌++◌, length, take, get_or, replicate, All, refl, ap, ◌∙◌}
use Rattle.std.specs.List.{list_all, onto_first}
use Rattle.std.specs.Str.Lines.{strip_carriage_return}
use Rattle.std.proofs.lemmas.Bool.{and_parts, not-true, ne_eqb}
use Rattle.std.proofs.lemmas.List.Elements.{All-head, All-tail}
use Rattle.acpi_dump.specs.Lines.{lines}
use Rattle.acpi_dump.specs.Written.{text_of}

-- neither a line feed nor a carriage return
abbrev pub IsPlain : ℕ → Type 0
IsPlain c = ((c == 10) ≡ false) × ((c == 13) ≡ false)

abbrev pub ArePlain : List ℕ → Type 0
ArePlain [] = Unit {0}
ArePlain (c ∷ text) = IsPlain c × ArePlain text

pub plain_both : (a b : List ℕ) → ArePlain a → ArePlain b → ArePlain (a ++ b)
plain_both [] b is more = more
plain_both (c ∷ a) b is more = (is.0, plain_both a b is.1 more)

pub plain_copies : (n c : ℕ) → IsPlain c → ArePlain (replicate n c)
plain_copies zero c is = tt
plain_copies (suc n) c is = (is, plain_copies n c is)

-- a text that a test finds plain
abbrev pub is_plain : ℕ → Bool
is_plain c = not (c == 10) && not (c == 13)

pub plain_by : (text : List ℕ) → list_all is_plain text ≡ true → ArePlain text
plain_by [] is = tt
plain_by (c ∷ text) is =
    let all = and_parts (is_plain c) (list_all is_plain text) is in
    let both = and_parts (not (c == 10)) (not (c == 13)) all.0 in
    ((not-true (c == 10) both.0, not-true (c == 13) both.1), plain_by text all.1)

pub plain_name : (name : List ℕ) → All (λ c. (c ≢ 10) × (c ≢ 13)) name → ArePlain name
plain_name [] are = tt
plain_name (c ∷ name) are =
    let here = All-head (λ (n : ℕ). (n ≢ 10) × (n ≢ 13)) c name are in
    ((ne_eqb c 10 here.0, ne_eqb c 13 here.1), plain_name name (All-tail (λ (n : ℕ). (n ≢ 10) × (n ≢ 13)) c name are))

-- ---- carriage returns

no_return : (text : List ℕ) (i : ℕ) → ArePlain text → (get_or text i 0 == 13) ≡ false
no_return [] zero is = refl
no_return [] (suc i) is = refl
no_return (c ∷ text) zero is = is.0.1
no_return (c ∷ text) (suc i) is = no_return text i is.1

pub unstripped : (line : List ℕ) → ArePlain line → strip_carriage_return line ≡ line
unstripped line is =
    ap (λ (b : Bool). if b then take (length line - 1) line else line) (no_return line (length line - 1) is)

-- ---- lines

lines_next : (line rest : List ℕ) → ArePlain line → lines (line ++ (10 ∷ rest)) ≡ line ∷ lines rest
lines_next [] rest is = refl
lines_next (c ∷ line) rest is =
    let more = line ++ (10 ∷ rest) in
    ap (λ (b : Bool). if b then [] ∷ lines more else onto_first c (lines more)) is.0.0 ∙ ap (onto_first c) (lines_next line rest is.1)

abbrev pub AllPlain : List (List ℕ) → Type 0
AllPlain [] = Unit {0}
AllPlain (line ∷ more) = ArePlain line × AllPlain more

pub lines_are : (all : List (List ℕ)) → AllPlain all → lines (text_of all) ≡ all
lines_are [] are = refl
lines_are (line ∷ all) are = lines_next line (text_of all) are.0 ∙ ap (λ (l : List (List ℕ)). line ∷ l) (lines_are all are.1)
