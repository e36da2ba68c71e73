-- The lines before tables.
use Rattle.std.proofs.Common.{◌≡◌, ℕ, ◌==◌, ◌&&◌, ◌||◌, not, Bool, true, false, List, [], ◌∷◌, ◌++◌, refl, sym, ap, ◌∙◌, append_assoc, codes}
use Rattle.std.specs.List.{list_all}
use Rattle.std.proofs.lemmas.Bool.{and_left, and_right, ne_eqb}
use Rattle.acpi_dump.specs.Line.{is_blank, is_address, ends_in_address, is_title}
use Rattle.acpi_dump.specs.Dump.{title, line_of}
use Rattle.acpi_dump.specs.Laws.{BeginsTitle}
use Rattle.acpi_dump.specs.Written.{title_line}

-- a character that fails a test
pub not_all : (p : ℕ → Bool) (front : List ℕ) (c : ℕ) (rest : List ℕ) → p c ≡ false → list_all p (front ++ (c ∷ rest)) ≡ false
not_all p [] c rest is = and_left (p c) (list_all p rest) is
not_all p (d ∷ front) c rest is = and_right (p d) (list_all p (front ++ (c ∷ rest))) (not_all p front c rest is)

pub or_true : (b : Bool) → (b || true) ≡ true
or_true true = refl
or_true false = refl

abbrev pub address : List ℕ
address = codes " @ 0x0000000000000000"

ends : (name : List ℕ) → ends_in_address (name ++ address) ≡ true
ends [] = refl
ends (c ∷ name) =
    ap (λ (b : Bool). is_address (c ∷ (name ++ address)) || b) (ends name) ∙ or_true (is_address (c ∷ (name ++ address)))

title_is : (name : List ℕ) → BeginsTitle name → is_title (title_line name) ≡ true
title_is [] begins = absurd begins
title_is (c ∷ name) begins =
    ap (λ (b : Bool). not b && ends_in_address (name ++ address)) (ne_eqb c 32 begins) ∙ ends name

not_blank : (name : List ℕ) → is_blank (title_line name) ≡ false
not_blank name =
    ap is_blank (sym (append_assoc name (32 ∷ []) (codes "@ 0x0000000000000000")))
    ∙ not_all (λ c. c == 32 || c == 9) (name ++ (32 ∷ [])) 64 (codes " 0x0000000000000000") refl

pub title_read : (name : List ℕ) → BeginsTitle name → line_of (title_line name) ≡ title (title_line name)
title_read name begins = rw (not_blank name, title_is name begins) refl
