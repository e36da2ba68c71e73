-- Tables in the order of their middles: overlaps are between neighbours.
use Rattle.std.proofs.Common.{◌≡◌, ℕ, zero, suc, ◌+◌, ◌<◌, ◌≤◌, inl, inr, Bool, true, false, not, ◌||◌, leb, eqb, ◌-◌, ◌++◌, nat_lt, if◌then◌else◌, append-nil, List, [], ◌∷◌, length, get_or, drop, refl, sym, ap, ◌∙◌, subst, arith, Some}
use Rattle.std.specs.List.{All, Contains, IsDistinct, AllAdjacentBelow, slice_get}
use Rattle.std.proofs.lemmas.List.Sorted.{IsPermutation-sym, All-permutation}
use Rattle.std.proofs.lemmas.Map.Keys.{apart_from_distinct, IsDistinct-from_apart, IsDistinct-IsPermutation}
use Rattle.std.proofs.lemmas.Bool.Decides.{leb_tells}
use Rattle.std.proofs.lemmas.List.{get_or-drop, get_or_default, length-drop, drop_all}
use Rattle.std.proofs.lemmas.Option.{slice_get-get_or, slice_get_within, get_or_from_slice_get}
use Rattle.acpi_layout.specs.declared.fault.ImageFault.TheVariants as faults
use Rattle.acpi_layout.specs.declared.located.Located.{Located}
use Rattle.acpi_layout.specs.Apart.{middle, placed, ByMiddle, overlap_of}
use Rattle.acpi_layout.specs.Found.{IsApart, AreApart}
use Rattle.acpi_layout.specs.Fault.{IsOverlap, overlap}

-- whether two tables overlap
meet : Located × ℕ → Located × ℕ → Bool
meet p q = not (leb (p.0.address + p.0.length) q.0.address || leb (q.0.address + q.0.length) p.0.address)

meet_flips : (p q : Located × ℕ) → meet p q ≡ meet q p
unfolding meet
meet_flips p q = grind (arith)

meet_not : (p q : Located × ℕ) → IsApart p.0 q.0 → meet p q ≡ false
unfolding meet
meet_not p q h = grind (arith, leb_tells, h)

apart_is : (p q : Located × ℕ) → meet p q ≡ false → IsApart p.0 q.0
unfolding meet
apart_is p q h = grind (arith, leb_tells, h)

-- whether two have the same place
same_place : Located × ℕ → Located × ℕ → Bool
same_place p q = eqb p.1 q.1

-- ---- places

length_placed : (n : ℕ) (tables : List Located) → length (placed n tables) ≡ length tables
length_placed n [] = refl
length_placed n (t ∷ tables) = ap suc (length_placed (n + 1) tables)

get_placed : (n : ℕ) (tables : List Located) (k : ℕ) (d : Located × ℕ) → k < length tables → get_or (placed n tables) k d ≡ (get_or tables k d.0, n + k)
get_placed n [] k d inside = absurd (omega (arith, inside))
get_placed n (t ∷ tables) zero d inside = ap (λ i. (t, i)) (omega arith)
get_placed n (t ∷ tables) (suc k) d inside = get_placed (n + 1) tables k d (omega (arith, inside)) ∙ ap (λ i. (get_or tables k d.0, i)) (omega arith)

get_first : (tables : List Located) (k : ℕ) (d : Located × ℕ) → k < length tables → get_or (placed 0 tables) k d ≡ (get_or tables k d.0, k)
get_first tables k d inside = get_placed 0 tables k d inside ∙ ap (λ i. (get_or tables k d.0, i)) (omega arith)

inside_placed : (tables : List Located) (k : ℕ) → k < length (placed 0 tables) → k < length tables
inside_placed tables k inside = subst (λ n. k < n) (length_placed 0 tables) inside

-- each table stands at its place
placed_stand : (tables : List Located) → All (λ (p : Located × ℕ). slice_get tables p.1 ≡ Some p.0) (placed 0 tables)
placed_stand tables k d inside =
    let within = inside_placed tables k inside in
    subst (λ (p : Located × ℕ). slice_get tables p.1 ≡ Some p.0) (sym (get_first tables k d within)) (slice_get-get_or tables k d.0 within)

-- a test of two places of a list with places
tested : (test : Located × ℕ → Located × ℕ → Bool) (tables : List Located) (i j : ℕ) (d : Located × ℕ) → i < length tables → j < length tables
    → test (get_or (placed 0 tables) i d) (get_or (placed 0 tables) j d) ≡ test (get_or tables i d.0, i) (get_or tables j d.0, j)
tested test tables i j d i_inside j_inside =
    ap (λ (p : Located × ℕ). test p (get_or (placed 0 tables) j d)) (get_first tables i d i_inside)
    ∙ ap (λ (p : Located × ℕ). test (get_or tables i d.0, i) p) (get_first tables j d j_inside)

places_differ : (tables : List Located) → IsDistinct same_place (placed 0 tables)
unfolding same_place
places_differ tables =
    IsDistinct-from_apart same_place (placed 0 tables)
    (λ i j d less inside.
    let within = inside_placed tables j inside in
    let other : eqb i j ≡ false = grind (arith, less) in
    tested same_place tables i j d (omega (arith, less, within)) within ∙ other)

same_place_flips : (p q : Located × ℕ) → same_place p q ≡ same_place q p
unfolding same_place
same_place_flips p q = grind (arith)

-- a table that stands at a later place is among those after an earlier one
later : (tables : List Located) (i j : ℕ) (x : Located) → i < j → slice_get tables j ≡ Some x → Contains (drop (i + 1) tables) x
later tables i j x less at =
    let within = slice_get_within tables j x at in
    let same : i + 1 + (j - (i + 1)) ≡ j = omega (arith, less) in
    (j - (i + 1), omega (arith, less, within, length-drop (i + 1) tables), get_or-drop (i + 1) tables (j - (i + 1)) x ∙ ap (λ k. get_or tables k x) same ∙ get_or_from_slice_get tables j x x at)

-- all tables have got places
pub no_more : (i : ℕ) (tables : List Located) (all : List (Located × ℕ)) → length tables ≤ i → all ++ placed i (drop i tables) ≡ placed 0 tables → all ≡ placed 0 tables
no_more i tables all past is = sym (append-nil all) ∙ ap (λ l. all ++ placed i l) (sym (drop_all i tables past)) ∙ is

-- ---- pairs by their places

apart_from_places : (tables : List Located) → ((i j : ℕ) (d : Located) → i < j → j < length tables → IsApart (get_or tables i d) (get_or tables j d)) → AreApart tables
apart_from_places [] h = tt
apart_from_places (t ∷ tables) h =
    (λ k d inside. h 0 (suc k) d (omega arith) (omega (arith, inside)), apart_from_places tables (λ i j d less inside. h (suc i) (suc j) d (omega (arith, less)) (omega (arith, inside))))

places_from_apart : (tables : List Located) → AreApart tables → (i j : ℕ) (d : Located) → i < j → j < length tables → IsApart (get_or tables i d) (get_or tables j d)
places_from_apart [] all i j d less inside = absurd (omega (arith, inside))
places_from_apart (t ∷ tables) all i zero d less inside = absurd (omega (arith, less))
places_from_apart (t ∷ tables) all zero (suc j) d less inside = all.0 j d (omega (arith, inside))
places_from_apart (t ∷ tables) all (suc i) (suc j) d less inside = places_from_apart tables all.1 i j d (omega (arith, less)) (omega (arith, inside))

-- ---- neighbours

-- the first ends before the second begins
abbrev pub Before : Located × ℕ → Located × ℕ → Type 0
Before p q = p.0.address + p.0.length ≤ q.0.address

far : (all : List (Located × ℕ)) → AllAdjacentBelow Before all (length all) → (i n : ℕ) (d : Located × ℕ) → i + suc n < length all → Before (get_or all i d) (get_or all (i + suc n) d)
far all h i zero d inside = h i d inside
far all h i (suc n) d inside =
    let one = far all h i n d (omega (arith, inside)) in
    let same : i + suc n + 1 ≡ i + suc (suc n) = omega arith in
    let next = subst (λ k. Before (get_or all (i + suc n) d) (get_or all k d)) same (h (i + suc n) d (omega (arith, inside))) in
    omega (arith, one, next)

further : (all : List (Located × ℕ)) → AllAdjacentBelow Before all (length all) → (i j : ℕ) (d : Located × ℕ) → i < j → j < length all → Before (get_or all i d) (get_or all j d)
further all h i j d less inside =
    let same : i + suc (j - suc i) ≡ j = omega (arith, less) in
    subst (λ k. Before (get_or all i d) (get_or all k d)) same (far all h i (j - suc i) d (omega (arith, less, inside)))

pub not_apart : (p q : Located) → middle p ≤ middle q → (p.address + p.length ≤ q.address → ⊥) → IsApart p q → ⊥
not_apart p q low after (inl h) = after h
not_apart p q low after (inr h) = after (omega (arith, low, h))

flipped : (p q : Located) → (IsApart p q → ⊥) → IsApart q p → ⊥
flipped p q h (inl x) = h (inr x)
flipped p q h (inr x) = h (inl x)

module _ (tables : List Located) (all : List (Located × ℕ)) (m : ByMiddle tables all) where
  pub all_apart : AllAdjacentBelow Before all (length all) → AreApart tables
  all_apart h =
      let theirs : IsDistinct meet all = IsDistinct-from_apart meet all (λ i j d less inside. meet_not (get_or all i d) (get_or all j d) (inl (further all h i j d less inside))) in
      let own : IsDistinct meet (placed 0 tables) = IsDistinct-IsPermutation meet meet_flips all (placed 0 tables) (IsPermutation-sym _ _ m.same) theirs in
      apart_from_places tables
      (λ i j d less inside.
      let within : j < length (placed 0 tables) = subst (λ n. j < n) (sym (length_placed 0 tables)) inside in
      let at = tested meet tables i j (d, 0) (omega (arith, less, inside)) inside in
      apart_is (get_or tables i d, i) (get_or tables j d, j) (sym at ∙ apart_from_distinct meet (placed 0 tables) i j (d, 0) own less within))

  module _ (k : ℕ) (d : Located × ℕ) (inside : k + 1 < length all) (after : Before (get_or all k d) (get_or all (k + 1) d) → ⊥) where
    abbrev p : Located × ℕ
    p = get_or all k d

    abbrev q : Located × ℕ
    q = get_or all (k + 1) d

    they_meet : IsApart p.0 q.0 → ⊥
    they_meet = not_apart p.0 q.0 (m.sorted k (k + 1) d (omega arith) inside) after

    not_all : AreApart tables → ⊥
    not_all h =
        let own : IsDistinct meet (placed 0 tables) = IsDistinct-from_apart meet (placed 0 tables)
        (λ i j e less below.
        let within = inside_placed tables j below in
        tested meet tables i j e (omega (arith, less, within)) within
        ∙ meet_not (get_or tables i e.0, i) (get_or tables j e.0, j) (places_from_apart tables h i j e.0 less within)) in
        let theirs : IsDistinct meet all = IsDistinct-IsPermutation meet meet_flips (placed 0 tables) all m.same own in
        they_meet (apart_is p q (apart_from_distinct meet all k (k + 1) d theirs (omega arith) inside))

    standing : All (λ (x : Located × ℕ). slice_get tables x.1 ≡ Some x.0) all
    standing = All-permutation (λ (x : Located × ℕ). slice_get tables x.1 ≡ Some x.0) (placed 0 tables) all m.same (placed_stand tables)

    differ : eqb p.1 q.1 ≡ false
    unfolding same_place
    differ = apart_from_distinct same_place all k (k + 1) d (IsDistinct-IsPermutation same_place same_place_flips (placed 0 tables) all m.same (places_differ tables)) (omega arith) inside

    is_overlap : IsOverlap tables (overlap_of p q)
    is_overlap = by (nat_lt p.1 q.1) refl
      where
        by : (b : Bool) → nat_lt p.1 q.1 ≡ b → IsOverlap tables (if b then faults.Overlap p.0.address q.0.address else faults.Overlap q.0.address p.0.address)
        by true e =
            let less : p.1 < q.1 = grind (arith, e) in
            overlap p.1 p.0 q.0 (standing k d (omega (arith, inside))) (later tables p.1 q.1 q.0 less (standing (k + 1) d inside)) they_meet
        by false e =
            let less : q.1 < p.1 = grind (arith, e, differ) in
            overlap q.1 q.0 p.0 (standing (k + 1) d inside) (later tables q.1 p.1 p.0 less (standing k d (omega (arith, inside)))) (flipped p.0 q.0 they_meet)

  -- the same of two that stand one after the other
  module _ (i : ℕ) (p q : Located × ℕ) (low : 1 ≤ i) (inside : i < length all) (p_is : p ≡ get_or all (i - 1) p) (q_is : q ≡ get_or all i q) (after : Before p q → ⊥) where
    next_inside : i - 1 + 1 < length all
    next_inside = omega (arith, low, inside)

    next_is : get_or all (i - 1 + 1) p ≡ q
    next_is =
        let same : i - 1 + 1 ≡ i = omega (arith, low) in
        ap (λ n. get_or all n p) same ∙ get_or_default all i p q inside ∙ sym q_is

    not_before : Before (get_or all (i - 1) p) (get_or all (i - 1 + 1) p) → ⊥
    not_before h = after (subst (λ (x : Located × ℕ). Before x q) (sym p_is) (subst (λ (x : Located × ℕ). Before (get_or all (i - 1) p) x) next_is h))

    pub not_all_apart : AreApart tables → ⊥
    not_all_apart = not_all (i - 1) p next_inside not_before

    pub they_overlap : IsOverlap tables (overlap_of p q)
    they_overlap =
        subst (IsOverlap tables) (ap (λ (x : Located × ℕ). overlap_of x (get_or all (i - 1 + 1) p)) (sym p_is) ∙ ap (λ (x : Located × ℕ). overlap_of p x) next_is)
        (is_overlap (i - 1) p next_inside not_before)
