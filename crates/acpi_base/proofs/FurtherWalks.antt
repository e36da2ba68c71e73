-- Walks of further tables.
use Rattle.std.proofs.Common.{rules, ◌≡◌, ℕ, ◌==◌, Bool, true, false, if◌then◌else◌, ◌≤◌, List, [], ◌∷◌, length, refl, sym, ap, subst, ◌∙◌, arith, inl, inr}
use Rattle.std.specs.Prelude.{◌↔◌, ◌&&◌, nat_le, codes, Option, Some, None, IsSome}
use Rattle.std.proofs.lemmas.Bool.Decides.{nat_tests}
use Rattle.acpi_base.specs.Bytes.{field_at}
use Rattle.acpi_base.specs.declared.walk.Walk.{Walk}
use Rattle.acpi_base.specs.declared.further_walk.FurtherWalk.{FurtherWalk}
use Rattle.acpi_base.specs.Walk.{place_width, number_in, find_size, has_type, sources, all_sources, hest_walk, named, IsSound, ArePieces, Walks, WalksBy, walk_of}
use Rattle.acpi_base.specs.FurtherWalk.{further_walks, further_walk_of, begin_of, walk_from, Follows, HasNone, IsSoundFurther, FollowsBy, AreFoundBy}
use Rattle.acpi_base.specs.FurtherWalk.{full_hest_walk, full_walk_of, OneListOfStructures, StructuresArePieces, SourcesArePieces}
use Rattle.acpi_base.specs.declared.walk.Place.TheVariants.{Word}
use Rattle.acpi_base.specs.declared.walk.TypeSize.{TypeSize}
use Rattle.acpi_base.specs.declared.walk.TypeSize.TheVariants.{Fixed}
use Rattle.acpi_base.proofs.Walks.{HoldsOfRows, if_found, found_holds, is_sound, one_walk, type_wider}

all_are_sound : HoldsOfRows IsSoundFurther further_walks
all_are_sound = search rules

pub is_sound_further : (s : ℕ) (f : FurtherWalk) → further_walk_of s ≡ Some f → IsSoundFurther f
is_sound_further s f is = found_holds IsSoundFurther s further_walks f all_are_sound is

-- a table that contains 0 as the offset of its structures has none
none_begins : (f : FurtherWalk) (bytes : List ℕ) (ps : List (List ℕ)) → IsSoundFurther f → HasNone f bytes → Follows f bytes ps → ⊥
none_begins f bytes ps sound none follows = omega (arith, none.has, none.nowhere, follows.later, sound.some)

one_follows : (f : FurtherWalk) (bytes : List ℕ) (ps qs : List (List ℕ)) → IsSoundFurther f → FollowsBy (Some f) bytes ps → FollowsBy (Some f) bytes qs → ps ≡ qs
one_follows f bytes ps qs sound (inl a) (inl b) = one_walk (walk_from (begin_of f.walk bytes) f.walk) bytes ps qs sound.walk.has a.walks b.walks
one_follows f bytes ps qs sound (inl a) (inr b) = absurd (none_begins f bytes ps sound b.0 a)
one_follows f bytes ps qs sound (inr a) (inl b) = absurd (none_begins f bytes qs sound a.0 b)
one_follows f bytes ps qs sound (inr a) (inr b) = a.1 ∙ sym b.1

pub one_found : (o : Option Walk) (p : Option FurtherWalk) → ((w : Walk) → o ≡ Some w → IsSound w) → ((f : FurtherWalk) → p ≡ Some f → IsSoundFurther f)
    → (bytes : List ℕ) (ps qs : List (List ℕ)) → AreFoundBy o p bytes ps → AreFoundBy o p bytes qs → ps ≡ qs
one_found (Some w) p sound further bytes ps qs a b = one_walk w bytes ps qs (sound w refl).has a b
one_found None (Some f) sound further bytes ps qs a b = one_follows f bytes ps qs (further f refl) a b
one_found None None sound further bytes ps qs a b = a ∙ sym b

full_hest_is_sound : IsSound full_hest_walk
full_hest_is_sound = search rules

pub is_sound_full : (s : ℕ) (w : Walk) → full_walk_of s ≡ Some w → IsSound w
is_sound_full s w is = if_found IsSound (s == named (codes "HEST")) full_hest_walk (walk_of s) w full_hest_is_sound (is_sound s w) is

pub one_list_of_structures : OneListOfStructures
one_list_of_structures bytes ps qs a b =
    let s = field_at 0 4 bytes in
    one_found (full_walk_of s) (further_walk_of s) (is_sound_full s) (is_sound_further s) bytes ps qs a b

-- ---- tables that begin where the walk does

begins : (b : Bool) (w : Walk) (n : ℕ) → (b ≡ false → n ≡ w.start) → (if b then w.start else n) ≡ w.start
begins true w n told = refl
begins false w n told = told refl

begins_at_start : (w : Walk) (bytes : List ℕ) (ps : List (List ℕ)) → Walks w bytes ps → begin_of w bytes ≡ w.start
begins_at_start w bytes ps walks = begins (place_width w.first == 0) w (number_in w.first bytes) (λ has. walks.started (grind (arith, nat_tests, has)))

pub walks_follow : (f : FurtherWalk) (bytes : List ℕ) (ps : List (List ℕ)) → IsSoundFurther f → Walks f.walk bytes ps → Follows f bytes ps
walks_follow f bytes ps sound walks =
    let is = begins_at_start f.walk bytes ps walks in
    record {
      later = omega (arith, sound.least, is);
      walks = subst (λ n. Walks (walk_from n f.walk) bytes ps) (sym is) walks;
    }

-- ---- tables of the Rust crate

one_of : {W : Type 0} (P : Type 0) (b c : Bool) (x row : W) (o : Option W) → b ≡ c → (c ≡ true → P) → (o ≡ Some row → P) → (if b then Some x else o) ≡ Some row → P
one_of P true c x row o same first rest is = first (sym same)
one_of P false c x row o same first rest is = rest is

later : {W : Type 0} (b : Bool) (x row : W) (o p : Option W) → (o ≡ Some row → p ≡ Some row) → (if b then Some x else o) ≡ Some row → (if b then Some x else p) ≡ Some row
later true x row o p same is = is
later false x row o p same is = same is

source_is_from : (k : ℕ) (row : TypeSize) → find_size k sources ≡ Some row → 6 ≤ k
source_is_from k row is =
    let one : (n size : ℕ) (o : Option TypeSize) → 6 ≤ n → (o ≡ Some row → 6 ≤ k) → (if has_type k (Fixed n n size) then Some (Fixed n n size) else o) ≡ Some row → 6 ≤ k
    = λ n size o low rest found. one_of (6 ≤ k) (has_type k (Fixed n n size)) (has_type k (Fixed n n size)) (Fixed n n size) row o refl (λ has. from n (has_type k (Fixed n n size)) low refl has) rest found in
    one 6 48 _ (omega arith) (one 7 44 _ (omega arith) (one 8 56 _ (omega arith) (one 9 64 _ (omega arith) (one 10 92 _ (omega arith) (λ none. absurd cc))))) is
  where
    both : (a b : Bool) → (a && b) ≡ true → a ≡ true
    both true b is = refl
    both false b is = absurd cc

    from : (n : ℕ) (b : Bool) → 6 ≤ n → b ≡ (nat_le n k && nat_le k n) → b ≡ true → 6 ≤ k
    from n b low same has = let first : nat_le n k ≡ true = both (nat_le n k) (nat_le k n) (sym same ∙ has) in grind (arith, nat_tests, first, low)

source_is_among_all : (k : ℕ) (row : TypeSize) → find_size k sources ≡ Some row → find_size k all_sources ≡ Some row
source_is_among_all k row is =
    let low = source_is_from k row is in
    let zeroth : (k == 0) ≡ false = grind (arith, nat_tests, low) in
    let first : (k == 1) ≡ false = grind (arith, nat_tests, low) in
    let third : nat_le k 2 ≡ false = grind (arith, nat_tests, low) in
    let second : nat_le 2 k ≡ true = grind (arith, nat_tests, low) in
    rw (zeroth, first, second, third)
    (later (has_type k (Fixed 6 6 48)) _ row _ _ (later (has_type k (Fixed 7 7 44)) _ row _ _ (later (has_type k (Fixed 8 8 56)) _ row _ _
    (later (has_type k (Fixed 9 9 64)) _ row _ _ (later (has_type k (Fixed 10 10 92)) _ row _ _ (λ none. absurd cc))))) is)

sources_are_all : (ps : List (List ℕ)) → ArePieces hest_walk.sizes ps → ArePieces full_hest_walk.sizes ps
sources_are_all [] each = tt
sources_are_all (p ∷ ps) each = (type_wider (Word 0) sources all_sources p (length p) source_is_among_all each.0, sources_are_all ps each.1)

sources_by : (o p : Option Walk) (f : Option FurtherWalk) (bytes : List ℕ) (ps : List (List ℕ)) → o ≡ Some hest_walk → p ≡ Some full_hest_walk
    → WalksBy o bytes ps ↔ (AreFoundBy p f bytes ps × ArePieces hest_walk.sizes ps)
sources_by o p f bytes ps a b = rw (a, b) (
  λ w. (record { reaches = w.reaches; joined = w.joined; each = sources_are_all ps w.each; counted = w.counted; started = w.started }, w.each),
  λ both. record { reaches = both.0.reaches; joined = both.0.joined; each = both.1; counted = both.0.counted; started = both.0.started },
)

pub sources_are_pieces : SourcesArePieces
sources_are_pieces bytes is ps =
    let s = field_at 0 4 bytes in
    sources_by (walk_of s) (full_walk_of s) (further_walk_of s) bytes ps (ap walk_of is) (ap full_walk_of is)

else_is : {W : Type 0} (b : Bool) (x : W) (o : Option W) → b ≡ false → (if b then Some x else o) ≡ o
else_is true x o is = absurd cc
else_is false x o is = refl

-- the walk of a table of the Rust crate that isn't a HEST
full_is_walk : (s : ℕ) → (s ≡ named (codes "HEST") → ⊥) → full_walk_of s ≡ walk_of s
full_is_walk s other = else_is (s == named (codes "HEST")) full_hest_walk (walk_of s) (grind (arith, nat_tests, other))

found_are_pieces : (o p : Option Walk) (f : Option FurtherWalk) → IsSome o → p ≡ o → (bytes : List ℕ) (ps : List (List ℕ)) → AreFoundBy p f bytes ps ↔ WalksBy o bytes ps
found_are_pieces (Some w) p f some same bytes ps = rw same (λ a. a, λ a. a)
found_are_pieces None p f some same bytes ps = absurd cc

pub structures_are_pieces : StructuresArePieces
structures_are_pieces bytes some other ps =
    let s = field_at 0 4 bytes in
    found_are_pieces (walk_of s) (full_walk_of s) (further_walk_of s) some (full_is_walk s other) bytes ps

-- a signature that is none of the Rust crate's has no walk with further structures
pub full_is_none : (s : ℕ) → walk_of s ≡ None → full_walk_of s ≡ None
full_is_none s none = full_is_walk s (λ is. let no : Some hest_walk ≡ None = sym (ap walk_of is) ∙ none in absurd cc) ∙ none
