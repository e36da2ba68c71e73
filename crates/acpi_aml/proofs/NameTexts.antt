-- Names of texts.
use Rattle.std.specs.List.{concat}
use Rattle.std.proofs.Common.{◌≡◌, zero, ℕ, suc, ◌<◌, ◌≤◌, Bool, true, false, cond, eqb, List, [], ◌∷◌, ◌++◌, length, None, Some, refl, sym, ap, subst, arith}
use Rattle.std.specs.Prelude.{◌≢◌, ◌&&◌, ◌||◌, nat_le}
use Rattle.std.proofs.lemmas.Bool.{leb-true, eqb-true, ne_eqb, and_parts}
use Rattle.acpi_base.specs.Object.{whole, ended}
use Rattle.acpi_base.specs.declared.error.Error.TheVariants.{NamePart, PathParts}
use Rattle.acpi_term.specs.Name.{AreSegments, no_more, one_more, IsPath, single, double, multiple, IsAbove, no_path, path_above, further_up, relative, rooted, IsNameString, as_written, root_alone, upwards, begins_up, without_parents}
use Rattle.acpi_term.specs.PathText.{parts, is_standard, are_standard, are_fours, root, unrooted, lead, path_of}
use Rattle.acpi_term.proofs.PathTexts.{some_parts}
use Rattle.acpi_aml.specs.NameText.{parents, is_null, segments_after, name_after, name_of, is_standard_text}

-- ---- the same name as path

either_same : (up : Bool) (text : List ℕ) → up ≡ false → (is_null (root text) (unrooted text) ≡ false)
    → name_after (cond up (parents text) (root text)) (cond up (without_parents text) (unrooted text)) ≡ path_of text
either_same up text h some = rw (h, some) refl

null_from : (b : ℕ) (text : List ℕ) (t : Bool) → (t ≡ true → b ≡ 92) → (b ∷ text ≡ 92 ∷ [] → ⊥) → is_null (cond t (92 ∷ []) []) (cond t text (b ∷ text)) ≡ false
null_from b [] true is other = absurd (other (ap (λ x. x ∷ []) (is refl)))
null_from b (c ∷ text) true is other = refl
null_from b text false is other = refl

some_after : (text : List ℕ) → (text ≡ 92 ∷ [] → ⊥) → is_null (root text) (unrooted text) ≡ false
some_after [] other = refl
some_after (b ∷ text) other = null_from b text (eqb b 92) (eqb-true b 92) other

pub paths_are_names : (text : List ℕ) → begins_up text ≡ false → text ≢ 92 ∷ [] → name_of text ≡ path_of text
unfolding name_of
paths_are_names text h other = either_same (begins_up text) text h (some_after text other)

-- ---- standard segments

standard_four : (p : List ℕ) → is_standard p ≡ true → eqb (length p) 4 ≡ true
standard_four [] h = absurd cc
standard_four (a ∷ []) h = absurd cc
standard_four (a ∷ b ∷ []) h = absurd cc
standard_four (a ∷ b ∷ c ∷ []) h = absurd cc
standard_four (a ∷ b ∷ c ∷ d ∷ []) h = refl
standard_four (a ∷ b ∷ c ∷ d ∷ e ∷ p) h = absurd cc

are_four : (ps : List (List ℕ)) → are_standard ps ≡ true → are_fours ps ≡ true
are_four [] h = refl
are_four (p ∷ ps) h = let both = and_parts (is_standard p) (are_standard ps) h in rw (standard_four p both.0, are_four ps both.1) refl

segment_of : (p : List ℕ) (n : ℕ) (s : List ℕ) → is_standard p ≡ true → AreSegments n s → AreSegments (suc n) (p ++ s)
segment_of [] n s h more = absurd cc
segment_of (a ∷ []) n s h more = absurd cc
segment_of (a ∷ b ∷ []) n s h more = absurd cc
segment_of (a ∷ b ∷ c ∷ []) n s h more = absurd cc
segment_of (a ∷ b ∷ c ∷ d ∷ []) n s h more = one_more h more
segment_of (a ∷ b ∷ c ∷ d ∷ e ∷ p) n s h more = absurd cc

segments_of : (ps : List (List ℕ)) → are_standard ps ≡ true → AreSegments (length ps) (concat ps)
segments_of [] h = no_more
segments_of (p ∷ ps) h = let both = and_parts (is_standard p) (are_standard ps) h in segment_of p (length ps) (concat ps) both.0 (segments_of ps both.1)

path_from : (n : ℕ) (s : List ℕ) → 0 < n → n ≤ 255 → AreSegments n s → IsPath (lead n ++ s)
path_from zero s some few h = absurd (omega arith)
path_from (suc zero) s some few h = single h
path_from (suc (suc zero)) s some few h = double h
path_from (suc (suc (suc n))) s some few h =
    let a : eqb (suc (suc (suc n))) 1 ≡ false = ne_eqb _ _ (λ z. omega (arith, z)) in
    let b : eqb (suc (suc (suc n))) 2 ≡ false = ne_eqb _ _ (λ z. omega (arith, z)) in
    rw (a, b) (multiple {n = suc (suc (suc n))} (omega arith) (omega arith) h)

whole_path : (t u : Bool) (b : List ℕ) → t ≡ true → u ≡ true
    → ((ended (cond t (cond u None (Some PathParts)) (Some NamePart)) (whole b)).end ≡ None) × ((ended (cond t (cond u None (Some PathParts)) (Some NamePart)) (whole b)).front ≡ b)
whole_path t u b is also = rw (is, also) (refl, refl)

-- ---- names of the standard

-- a name behind each `^`
ups_by : (t : Bool) (text s : List ℕ) → IsAbove s → IsAbove (parents text ++ s) → IsAbove (cond t (94 ∷ parents text) [] ++ s)
ups_by true text s p above = further_up above
ups_by false text s p above = p

ups : (text s : List ℕ) → IsAbove s → IsAbove (parents text ++ s)
ups [] s p = p
ups (b ∷ text) s p = ups_by (eqb b 94) text s p (ups text s p)

by_segments : (t : Bool) (before rest : List ℕ) → (t ≡ true → IsNameString (before ++ 0 ∷ [])) → ((s : List ℕ) → IsPath s → IsNameString (before ++ s))
    → (t || (are_standard (parts rest) && nat_le (length (parts rest)) 255)) ≡ true
    → IsNameString (cond t (whole (before ++ 0 ∷ [])) (segments_after before rest)).front × ((cond t (whole (before ++ 0 ∷ [])) (segments_after before rest)).end ≡ None)
by_segments true before rest null path h = (null refl, refl)
by_segments false before rest null path h =
    let ps = parts rest in
    let both = and_parts (are_standard ps) (nat_le (length ps) 255) h in
    let p = whole_path (are_fours ps) (nat_le (length ps) 255) (before ++ (lead (length ps) ++ concat ps)) (are_four ps both.0) both.1 in
    (subst IsNameString (sym p.1) (path (lead (length ps) ++ concat ps) (path_from (length ps) (concat ps) (some_parts rest) (leb-true (length ps) 255 both.1) (segments_of ps both.0))), p.0)

abbrev before_by : Bool → Bool → List ℕ → List ℕ
before_by up down text = cond up (cond up (94 ∷ parents text) []) (cond down (92 ∷ []) [])

abbrev rest_by : Bool → Bool → ℕ → List ℕ → List ℕ
rest_by up down b text = cond up (cond up (without_parents text) (b ∷ text)) (cond down text (b ∷ text))

by_first : (up down : Bool) (b : ℕ) (text : List ℕ)
    → (is_null (before_by up down text) (rest_by up down b text) || (are_standard (parts (rest_by up down b text)) && nat_le (length (parts (rest_by up down b text))) 255)) ≡ true
    → IsNameString (name_after (before_by up down text) (rest_by up down b text)).front × ((name_after (before_by up down text) (rest_by up down b text)).end ≡ None)
by_first true down b text h =
    by_segments (is_null (94 ∷ parents text) (without_parents text)) (94 ∷ parents text) (without_parents text) (λ _. upwards (ups text (0 ∷ []) no_path)) (λ s p. upwards (ups text s (path_above p))) h
by_first false true b text h = by_segments (is_null (92 ∷ []) text) (92 ∷ []) text (λ _. root_alone) (λ s p. as_written (rooted p)) h
by_first false false b text h = by_segments false [] (b ∷ text) (λ e. absurd cc) (λ s p. as_written (relative p)) h

pub name_texts_mean : (text : List ℕ) → is_standard_text text ≡ true → IsNameString (name_of text).front × ((name_of text).end ≡ None)
unfolding name_of
name_texts_mean [] h = absurd cc
name_texts_mean (b ∷ text) h = by_first (eqb b 94) (eqb b 92) b text h
