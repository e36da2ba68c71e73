-- Paths that are held.
use Rattle.std.proofs.Common.{◌≡◌, ℕ, ◌*◌, ◌<◌, ◌≤◌, Bool, true, false, cond, eqb, List, [], ◌∷◌, ◌++◌, Option, Some, None, Result, Ok, length, take, refl, sym, ap, ◌∙◌, arith, append_assoc, length-append}
use Rattle.std.specs.Prelude.{nat_le}
use Rattle.std.specs.List.{concat}
use Rattle.std.proofs.lemmas.Bool.{and_parts, eqb-true}
use Rattle.std.proofs.lemmas.Bool.Decides.{nat_tests}
use Rattle.std.proofs.lemmas.List.{append-nil, take_all}
use Rattle.acpi_base.specs.Object.{whole, ended}
use Rattle.acpi_base.specs.declared.error.Error.{Error}
use Rattle.acpi_base.specs.declared.error.Error.TheVariants.{NamePart, PathParts}
use Rattle.acpi_term.specs.PathText.{parts, are_fours, is_rooted, root, unrooted, lead, parts_end, path_spelling, path_of}
use Rattle.acpi_c_calls.specs.Writer.{piece_of}
use Rattle.acpi_c_calls.specs.declared.fault.Fault.{Fault}
use Rattle.acpi_c_calls.proofs.Helds.{take_again}

concat_fours : (ps : List (List ℕ)) → are_fours ps ≡ true → length (concat ps) ≡ 4 * length ps
concat_fours [] are = refl
concat_fours (p ∷ ps) are =
    let both = and_parts (eqb (length p) 4) (are_fours ps) are in
    let four : length p ≡ 4 = eqb-true (length p) 4 both.0 in
    let more = concat_fours ps both.1 in
    length-append p (concat ps) ∙ omega (arith, four, more)

root_few : (rooted : Bool) → length {A = ℕ} (cond rooted (92 ∷ []) []) ≤ 1
root_few true = omega arith
root_few false = omega arith

lead_few : (n : ℕ) → length (lead n) ≤ 2
lead_few n = grind (arith, nat_tests)

whole_path : (text : List ℕ) → are_fours (parts (unrooted text)) ≡ true → length (parts (unrooted text)) < 256 → Ok (path_spelling text) ≡ piece_of (path_of text)
whole_path text fours few =
    let below : nat_le (length (parts (unrooted text))) 255 ≡ true = grind (arith, nat_tests, few) in
    rw (fours, below) refl

pub held_none : (held : List ℕ) → take 1024 held ≡ take 1024 (held ++ [])
held_none held = ap (take 1024) (sym (append-nil held))

-- one part more is held
pub next_part : (held new part goal : List ℕ) (all more : List (List ℕ)) → all ≡ part ∷ more → new ≡ take 1024 (held ++ part)
    → take 1024 (held ++ concat all) ≡ goal → are_fours all ≡ true → (take 1024 (new ++ concat more) ≡ goal) × (are_fours more ≡ true)
next_part held new part goal all more split is before fours =
    let rest : take 1024 (new ++ concat more) ≡ goal =
    ap (λ (l : List ℕ). take 1024 (l ++ concat more)) is ∙ take_again 1024 (held ++ part) (concat more)
    ∙ ap (take 1024) (append_assoc held part (concat more)) ∙ ap (λ (a : List (List ℕ)). take 1024 (held ++ concat a)) (sym split) ∙ before in
    (rest, (and_parts (eqb (length part) 4) (are_fours more) (rw split at fours)).1)

pub path_held : (text one two new : List ℕ) (n : ℕ) → one ≡ take 1024 ([] ++ root text) → two ≡ take 1024 (one ++ lead n)
    → length new ≤ 1024 → take 1024 new ≡ take 1024 (two ++ concat (parts (unrooted text))) → n ≡ length (parts (unrooted text)) → n < 256 → are_fours (parts (unrooted text)) ≡ true
    → Ok new ≡ piece_of (path_of text)
path_held text one two new n first second short third count few fours =
    let ps = parts (unrooted text) in
    let r = root text in
    let segments = concat ps in
    let s2 : two ≡ take 1024 (r ++ lead n) = second ∙ ap (λ (l : List ℕ). take 1024 (l ++ lead n)) first ∙ take_again 1024 r (lead n) in
    let s3 : new ≡ take 1024 (r ++ (lead n ++ segments)) =
    sym (take_all 1024 new short) ∙ third ∙ ap (λ (l : List ℕ). take 1024 (l ++ segments)) s2 ∙ take_again 1024 (r ++ lead n) segments ∙ ap (take 1024) (append_assoc r (lead n) segments) in
    let size : length (r ++ (lead n ++ segments)) ≤ 1024 =
    omega (arith, length-append r (lead n ++ segments), length-append (lead n) segments, root_few (is_rooted text), lead_few n, concat_fours ps fours, count, few) in
    let s4 : new ≡ path_spelling text = s3 ∙ take_all 1024 (r ++ (lead n ++ segments)) size ∙ ap (λ (m : ℕ). r ++ (lead m ++ segments)) count in
    ap (λ (l : List ℕ). Ok l) s4 ∙ whole_path text fours (omega (arith, count, few))

-- ---- paths have at most 1023 bytes

held_is : (e : Option Error) (bytes held : List ℕ) → ◌≡◌ {A = Result (List ℕ) Fault} (Ok held) (piece_of (ended e (whole bytes)))
    → (e ≡ None) × (held ≡ bytes)
held_is None bytes held is = (refl, cc)
held_is (Some e) bytes held is = absurd cc

none_is : (fours few : Bool) → ◌≡◌ {A = Option Error} (cond fours (cond few None (Some PathParts)) (Some NamePart)) None
    → (fours ≡ true) × (few ≡ true)
none_is true true is = (refl, refl)
none_is true false is = absurd cc
none_is false few is = absurd cc

pub path_few : (text held : List ℕ) → ◌≡◌ {A = Result (List ℕ) Fault} (Ok held) (piece_of (path_of text)) → length held ≤ 1023
path_few text held is =
    let ps = parts (unrooted text) in
    let r = root text in
    let both = held_is (parts_end ps) (path_spelling text) held is in
    let those = none_is (are_fours ps) (nat_le (length ps) 255) both.0 in
    let count : length ps ≤ 255 = let few = those.1 in grind (arith, nat_tests, few) in
    let size : length held ≡ length (path_spelling text) = ap length both.1 in
    omega (arith, size, length-append r (lead (length ps) ++ concat ps), length-append (lead (length ps)) (concat ps), root_few (is_rooted text), lead_few (length ps), concat_fours ps those.0, count)

-- one byte more is held after a path
pub flag_held : (held : List ℕ) (flag : ℕ) → length held ≤ 1023 → take 1024 (held ++ flag ∷ []) ≡ held ++ flag ∷ []
flag_held held flag few = take_all 1024 (held ++ flag ∷ []) (omega (arith, few, length-append held (flag ∷ [])))
