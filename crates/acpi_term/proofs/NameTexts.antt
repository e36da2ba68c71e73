-- Texts of names.
use Rattle.std.specs.List.{concat}
use Rattle.std.proofs.Common.{◌≡◌, zero, ℕ, suc, ◌-◌, ◌/◌, ◌<◌, get_or, take, drop, ◌≤◌, Bool, true, false, cond, eqb, List, [], ◌∷◌, ◌++◌, length, None, Some, refl, sym, ap, ◌∙◌, arith}
use Rattle.std.specs.Prelude.{◌&&◌, nat_le}
use Rattle.std.proofs.lemmas.Bool.{leb-true, eqb-true, and_parts, ne_eqb}
use Rattle.std.proofs.lemmas.List.{take_all}
use Rattle.std.proofs.lemmas.Bool.Decides.{nat_tests}
use Rattle.acpi_base.specs.declared.error.Error.{Error}
use Rattle.acpi_base.specs.declared.error.Error.TheVariants.{NamePart, PathParts, Memory}
use Rattle.acpi_base.specs.Object.{whole, ended, Built, IsOwnEnd}
use Rattle.acpi_term.specs.Name.{is_lead, is_part, is_segment, AreSegments, no_more, one_more, IsPath, single, double, multiple, IsName, relative, rooted, IsNameString, as_written}
use Rattle.acpi_term.specs.PathText.{are_segments, parts, is_standard, are_standard, are_fours, dotted, is_rooted, unrooted, lead, parts_end, path_spelling, path_of, is_name_text}
use Rattle.acpi_term.proofs.PathTexts as paths
use Rattle.acpi_term.proofs.Rows.{ended_none}

-- ---- standard parts have four bytes

standard_four : (p : List ℕ) → is_standard p ≡ true → eqb (length p) 4 ≡ true
standard_four [] h = absurd cc
standard_four (a ∷ []) h = absurd cc
standard_four (a ∷ b ∷ []) h = absurd cc
standard_four (a ∷ b ∷ c ∷ []) h = absurd cc
standard_four (a ∷ b ∷ c ∷ d ∷ []) h = refl
standard_four (a ∷ b ∷ c ∷ d ∷ e ∷ p) h = absurd cc

are_four : (ps : List (List ℕ)) → are_standard ps ≡ true → are_fours ps ≡ true
are_four [] h = refl
are_four (p ∷ ps) h = let both = and_parts (is_standard p) (are_standard ps) h in rw (standard_four p both.0, are_four ps both.1) refl

false_from : (t u : Bool) → (t ≡ true → u ≡ true) → u ≡ false → t ≡ false
false_from true u f h = absurd (let e = f refl in cc)
false_from false u f h = refl

not_four : (ps : List (List ℕ)) → are_fours ps ≡ false → are_standard ps ≡ false
not_four ps h = false_from (are_standard ps) (are_fours ps) (are_four ps) h

-- ---- part by part

pub short : (text : List ℕ) → length text < 4 → are_standard (parts text) ≡ false
short text small = not_four (parts text) (paths.short text small)

lead_dot : (b : ℕ) → is_lead b ≡ true → eqb b 46 ≡ false
lead_dot b h = grind (arith, nat_tests)

part_dot : (b : ℕ) → is_part b ≡ true → eqb b 46 ≡ false
part_dot b h = grind (arith, nat_tests)

undotted : (a b c d : ℕ) → is_segment a b c d ≡ true → dotted a b c d ≡ false
unfolding is_segment
undotted a b c d h =
    let p = and_parts (is_lead a && is_part b && is_part c) (is_part d) h in
    let q = and_parts (is_lead a && is_part b) (is_part c) p.0 in
    let r = and_parts (is_lead a) (is_part b) q.0 in
    rw (lead_dot a r.0, part_dot b r.1, part_dot c q.1, part_dot d p.1) refl

module _ (a b c d : ℕ) where
  pub step : (text : List ℕ) (x : ℕ) (more : List ℕ) → text ≡ a ∷ b ∷ c ∷ d ∷ x ∷ more → x ≡ 46 → is_segment a b c d ≡ true → are_standard (parts text) ≡ are_standard (parts more)
  step text x more is dot h = rw (is, dot) (ap are_standard (paths.step a b c d more (undotted a b c d h)) ∙ rw h refl)

  pub last : (text : List ℕ) → text ≡ a ∷ b ∷ c ∷ d ∷ [] → is_segment a b c d ≡ true → are_standard (parts text) ≡ true
  last text is h = rw is (ap are_standard (paths.last a b c d (undotted a b c d h)) ∙ rw h refl)

  pub long : (x : ℕ) (more : List ℕ) → is_segment a b c d ≡ true → (x ≡ 46 → ⊥) → are_standard (parts (a ∷ b ∷ c ∷ d ∷ x ∷ more)) ≡ false
  long x more h other = not_four (parts (a ∷ b ∷ c ∷ d ∷ x ∷ more)) (paths.long a b c d x more (undotted a b c d h) other)

  other_dot : (x : ℕ) (more : List ℕ) (t : Bool) → eqb x 46 ≡ t → is_segment a b c d ≡ false → dotted a b c d ≡ false → are_standard (parts (a ∷ b ∷ c ∷ d ∷ x ∷ more)) ≡ false
  other_dot x more true is h n = ap (λ (y : ℕ). are_standard (parts (a ∷ b ∷ c ∷ d ∷ y ∷ more))) (eqb-true x 46 is) ∙ ap are_standard (paths.step a b c d more n) ∙ rw h refl
  other_dot x more false is h n = not_four (parts (a ∷ b ∷ c ∷ d ∷ x ∷ more)) (paths.long a b c d x more n (λ e. grind (arith, nat_tests)))

  other_from : (tail : List ℕ) (t : Bool) → dotted a b c d ≡ t → is_segment a b c d ≡ false → are_standard (parts (a ∷ b ∷ c ∷ d ∷ tail)) ≡ false
  other_from tail true n h = not_four (parts (a ∷ b ∷ c ∷ d ∷ tail)) (paths.dots a b c d tail n)
  other_from [] false n h = ap are_standard (paths.last a b c d n) ∙ rw h refl
  other_from (x ∷ more) false n h = other_dot x more (eqb x 46) refl h n

  pub other : (tail : List ℕ) → is_segment a b c d ≡ false → are_standard (parts (a ∷ b ∷ c ∷ d ∷ tail)) ≡ false
  other tail h = other_from tail (dotted a b c d) refl h

-- four bytes, and what a slice pattern leaves after them
pub cut : (r : List ℕ) → 4 ≤ length r → r ≡ get_or r 0 0 ∷ get_or r 1 0 ∷ get_or r 2 0 ∷ get_or r 3 0 ∷ take (length r - 4) (drop 4 r)
cut [] h = absurd (omega arith)
cut (a ∷ []) h = absurd (omega arith)
cut (a ∷ b ∷ []) h = absurd (omega arith)
cut (a ∷ b ∷ c ∷ []) h = absurd (omega arith)
cut (a ∷ b ∷ c ∷ d ∷ r) h = ap (λ (l : List ℕ). a ∷ b ∷ c ∷ d ∷ l) (sym (take_all (length (a ∷ b ∷ c ∷ d ∷ r) - 4) r (omega arith)))

-- ---- the name of a text

segment_of : (p : List ℕ) (n : ℕ) (s : List ℕ) → is_standard p ≡ true → AreSegments n s → AreSegments (suc n) (p ++ s)
segment_of [] n s h more = absurd cc
segment_of (a ∷ []) n s h more = absurd cc
segment_of (a ∷ b ∷ []) n s h more = absurd cc
segment_of (a ∷ b ∷ c ∷ []) n s h more = absurd cc
segment_of (a ∷ b ∷ c ∷ d ∷ []) n s h more = one_more h more
segment_of (a ∷ b ∷ c ∷ d ∷ e ∷ p) n s h more = absurd cc

segments_of : (ps : List (List ℕ)) → are_standard ps ≡ true → AreSegments (length ps) (concat ps)
segments_of [] h = no_more
segments_of (p ∷ ps) h = let both = and_parts (is_standard p) (are_standard ps) h in segment_of p (length ps) (concat ps) both.0 (segments_of ps both.1)

path_from : (n : ℕ) (s : List ℕ) → 0 < n → n ≤ 255 → AreSegments n s → IsPath (lead n ++ s)
path_from zero s some few h = absurd (omega arith)
path_from (suc zero) s some few h = single h
path_from (suc (suc zero)) s some few h = double h
path_from (suc (suc (suc n))) s some few h =
    let a : eqb (suc (suc (suc n))) 1 ≡ false = ne_eqb _ _ (λ z. omega (arith, z)) in
    let b : eqb (suc (suc (suc n))) 2 ≡ false = ne_eqb _ _ (λ z. omega (arith, z)) in
    rw (a, b) (multiple {n = suc (suc (suc n))} (omega arith) (omega arith) h)

rooted_or : (t : Bool) (s : List ℕ) → IsPath s → IsName (cond t (92 ∷ []) [] ++ s)
rooted_or true s p = rooted p
rooted_or false s p = relative p

parts_few : (text : List ℕ) → is_name_text text ≡ true → (are_standard (parts (unrooted text)) ≡ true) × (length (parts (unrooted text)) ≤ 255)
parts_few text h = let both = and_parts (are_standard (parts (unrooted text))) (nat_le (length (parts (unrooted text))) 255) h in (both.0, leb-true (length (parts (unrooted text))) 255 both.1)

pub named : (text : List ℕ) → is_name_text text ≡ true → IsName (path_spelling text)
named text h =
    let both = parts_few text h in
    rooted_or (is_rooted text) (lead (length (parts (unrooted text))) ++ concat (parts (unrooted text)))
    (path_from (length (parts (unrooted text))) (concat (parts (unrooted text))) (paths.some_parts (unrooted text)) both.1 (segments_of (parts (unrooted text)) both.0))

-- ---- the name of segments

segments_from : (n : ℕ) (s : List ℕ) → length s / 4 ≡ n → are_segments s ≡ true → AreSegments n s
segments_from zero [] count h = no_more
segments_from (suc n) [] count h = absurd (omega (arith, count))
segments_from n (a ∷ []) count h = absurd cc
segments_from n (a ∷ b ∷ []) count h = absurd cc
segments_from n (a ∷ b ∷ c ∷ []) count h = absurd cc
segments_from zero (a ∷ b ∷ c ∷ d ∷ s) count h = absurd (omega (arith, count))
segments_from (suc n) (a ∷ b ∷ c ∷ d ∷ s) count h =
    let both = and_parts (is_segment a b c d) (are_segments s) h in
    one_more both.0 (segments_from n s (omega (arith, count)) both.1)

-- between 1 and 255 segments have a name
pub segments_name : (t : Bool) (n : ℕ) (s : List ℕ) → n ≡ length s / 4 → 0 < n → n ≤ 255 → are_segments s ≡ true
    → IsNameString (cond t (92 ∷ []) [] ++ (lead n ++ s))
segments_name t n s is some few h = as_written (rooted_or t (lead n ++ s) (path_from n s some few (segments_from n s (sym is) h)))

whole_path : (t u : Bool) (b : List ℕ) → t ≡ true → u ≡ true
    → ((ended (cond t (cond u None (Some PathParts)) (Some NamePart)) (whole b)).end ≡ None) × ((ended (cond t (cond u None (Some PathParts)) (Some NamePart)) (whole b)).front ≡ b)
whole_path t u b is also = rw (is, also) (refl, refl)

pub named_path : (text : List ℕ) → is_name_text text ≡ true → IsName (path_spelling text) × ((path_of text).end ≡ None) × ((path_of text).front ≡ path_spelling text)
named_path text h =
    let ps = parts (unrooted text) in
    let both = and_parts (are_standard ps) (nat_le (length ps) 255) h in
    let p = whole_path (are_fours ps) (nat_le (length ps) 255) (path_spelling text) (are_four ps both.0) both.1 in
    (named text h, p.0, p.1)

-- ---- a text that is read

pub nonstandard : (text : List ℕ) → are_standard (parts (unrooted text)) ≡ false → is_name_text text ≡ false
nonstandard text h = rw h refl

few_parts : (t u : Bool) → cond t (cond u None (Some PathParts)) (Some NamePart) ≡ None → u ≡ true
few_parts true true h = refl
few_parts true false h = absurd cc
few_parts false u h = absurd cc

pub is_text : (text bytes : List ℕ) → are_standard (parts (unrooted text)) ≡ true → Built (path_of text) bytes → is_name_text text ≡ true
is_text text bytes h built =
    let e = ended_none (parts_end (parts (unrooted text))) (whole (path_spelling text)) built.is_whole in
    let few = few_parts (are_fours (parts (unrooted text))) (nat_le (length (parts (unrooted text))) 255) e.0 in
    rw (h, few) refl

pub spelled_text : (text bytes : List ℕ) → Built (path_of text) bytes → bytes ≡ path_spelling text
spelled_text text bytes built = built.is ∙ (ended_none (parts_end (parts (unrooted text))) (whole (path_spelling text)) built.is_whole).2

pub is_name : (text bytes : List ℕ) → are_standard (parts (unrooted text)) ≡ true → Built (path_of text) bytes → IsNameString bytes
is_name text bytes h built = rw (spelled_text text bytes built) (as_written (named text (is_text text bytes h built)))

some_end : (t u : Bool) (b : List ℕ) (e : Error) → (ended (cond t (cond u None (Some PathParts)) (Some NamePart)) (whole b)).end ≡ Some e → (t && u) ≡ false
some_end true true b e h = absurd cc
some_end true false b e h = refl
some_end false u b e h = refl

no_both : (s t u : Bool) → (s ≡ true → t ≡ true) → (t && u) ≡ false → (s && u) ≡ false
no_both true t u f h = let e = f refl in rw e at h
no_both false t u f h = refl

pub no_name : (text : List ℕ) (e : Error) → IsOwnEnd e (path_of text) → (e ≡ Memory → ⊥) → is_name_text text ≡ false
no_name text e refused other =
    no_both (are_standard (parts (unrooted text))) (are_fours (parts (unrooted text))) (nat_le (length (parts (unrooted text))) 255) (are_four (parts (unrooted text)))
    (some_end (are_fours (parts (unrooted text))) (nat_le (length (parts (unrooted text))) 255) (path_spelling text) e (refused.cause other))
