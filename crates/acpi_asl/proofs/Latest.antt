-- Paths that are found by their key.
use Rattle.std.proofs.Common.{◌≡◌, ℕ, zero, suc, ◌<◌, ◌==◌, ◌||◌, Bool, true, false, cond, if◌then◌else◌, List, [], ◌∷◌, ◌++◌, length, map, get_or, take, Option, Some, None, refl, sym, ap, subst, ◌∙◌, append_assoc, arith}
use Rattle.std.proofs.lemmas.List.{append-nil}
use Rattle.std.proofs.lemmas.Bool.Decides.{nat_tests}
use Rattle.std.proofs.lemmas.Slice.Eq.{bytes_eq-Decides}
use Rattle.std.specs.BTreeMap.{BTreeMap, get, is_at, Updates}
use Rattle.std.specs.Ordering.{nat_cmp}
use Rattle.std.specs.Str.{bytes_eq}
use Rattle.acpi_asl.specs.Paths.{has, path_of, next_key, key_from, key, or_here, latest, AreLinked, IsIndexed}
use Rattle.acpi_asl.specs.declared.paths.Entry.{Entry}

abbrev Paths : Type 0
Paths = List (List ℕ)

same_bytes : (a b : List ℕ) → bytes_eq a b ≡ true → a ≡ b
same_bytes a b e = (bytes_eq-Decides a b).0 e

itself : (n : ℕ) → (n == n) ≡ true
itself n = grind (arith, nat_tests)

other_path : (path p : List ℕ) → (key p == key path) ≡ false → bytes_eq p path ≡ false
other_path path p other =
    elim (bytes_eq p path) as (λ b. bytes_eq p path ≡ b → b ≡ false) [
      | true ↦ λ is. sym (itself (key path)) ∙ ap (λ k. k == key path) (sym (ap key (same_bytes p path is))) ∙ other
      | false ↦ λ is. refl
    ] refl

-- the key of a path in two parts
pub key_of_both : (k : ℕ) (front rest : List ℕ) → key_from (key_from k front) rest ≡ key_from k (front ++ rest)
key_of_both k [] rest = refl
key_of_both k (b ∷ front) rest = key_of_both (next_key k b) front rest

-- ---- look-ups

-- the place at which a look-up goes on: no path after it is what is wanted
abbrev pub Looks : Paths → List ℕ → Option ℕ → Type 0
Looks all w None = has all w ≡ false
Looks all w (Some j) = (j < length all) × (key (get_or all j []) ≡ key w) × (has all w ≡ has (take (suc j) all) w)

abbrev pub places_left : Option ℕ → ℕ
places_left None = 0
places_left (Some j) = suc j

or_none : (a : Bool) → (a || false) ≡ a
or_none true = refl
or_none false = refl

-- the last path with the key
pub looks_first : (all : Paths) (w : List ℕ) → Looks all w (latest all (key w))
looks_first [] w = refl
looks_first (p ∷ all) w = by (latest all (key w)) (key p == key w) (looks_first all w) refl
  where
    by : (o : Option ℕ) (b : Bool) → Looks all w o → (key p == key w) ≡ b → Looks (p ∷ all) w (or_here o b)
    by (Some j) b l is = (omega (arith, l.0), l.1, ap (λ t. bytes_eq p w || t) l.2)
    by None true l is = (omega arith, same_key is, ap (λ t. bytes_eq p w || t) l)
      where
        same_key : (key p == key w) ≡ true → key p ≡ key w
        same_key e = grind (arith, nat_tests)
    by None false l is = ap (λ t. t || has all w) (other_path w p is) ∙ l

-- the first paths of the first ones
same_front : (all : Paths) (n i : ℕ) → i < length (take n all)
    → (i < n) × (i < length all) × (get_or (take n all) i [] ≡ get_or all i []) × (take (suc i) (take n all) ≡ take (suc i) all)
same_front [] zero i inside = absurd (omega (arith, inside))
same_front [] (suc n) i inside = absurd (omega (arith, inside))
same_front (p ∷ all) zero i inside = absurd (omega (arith, inside))
same_front (p ∷ all) (suc n) zero inside = (omega arith, omega arith, refl, refl)
same_front (p ∷ all) (suc n) (suc i) inside =
    let deeper = same_front all n i (omega (arith, inside)) in
    (omega (arith, deeper.0), omega (arith, deeper.1), deeper.2, ap (λ (l : Paths). p ∷ l) deeper.3)

-- a path that isn't wanted, after others
without_last : (all : Paths) (w : List ℕ) (j : ℕ) → j < length all → bytes_eq (get_or all j []) w ≡ false → has (take (suc j) all) w ≡ has (take j all) w
without_last [] w j inside not = absurd (omega (arith, inside))
without_last (p ∷ all) w zero inside not = ap (λ (t : Bool). t || false) not
without_last (p ∷ all) w (suc j) inside not = ap (λ (t : Bool). bytes_eq p w || t) (without_last all w j (omega (arith, inside)) not)

-- a place among the first paths is one among all
widened : (all : Paths) (w : List ℕ) (n : ℕ) (o : Option ℕ) → has all w ≡ has (take n all) w → Looks (take n all) w o
    → Looks all w o × (places_left o < suc n)
widened all w n None same l = (same ∙ l, omega arith)
widened all w n (Some j) same l =
    let front = same_front all n j l.0 in
    ((front.1, ap (λ (p : List ℕ). key p) (sym front.2) ∙ l.1, same ∙ l.2 ∙ ap (λ (ps : Paths). has ps w) front.3), omega (arith, front.0))

-- from a path that isn't wanted to the one before it
pub looks_on : (all : Paths) (w : List ℕ) (j : ℕ) (p : List ℕ) (o : Option ℕ) → Looks all w (Some j) → p ≡ get_or all j [] → bytes_eq p w ≡ false
    → o ≡ latest (take j all) (key p) → Looks all w o × (places_left o < suc j)
looks_on all w j p o l is not before =
    let same : has all w ≡ has (take j all) w = l.2 ∙ without_last all w j l.0 (ap (λ (q : List ℕ). bytes_eq q w) (sym is) ∙ not) in
    let first : o ≡ latest (take j all) (key w) = before ∙ ap (λ (q : List ℕ). latest (take j all) (key q)) is ∙ ap (latest (take j all)) l.1 in
    widened all w j o same (subst (λ (x : Option ℕ). Looks (take j all) w x) (sym first) (looks_first (take j all) w))

at_last : (all : Paths) (w : List ℕ) (j : ℕ) → j < length all → bytes_eq (get_or all j []) w ≡ true → has (take (suc j) all) w ≡ true
at_last [] w j inside is = absurd (omega (arith, inside))
at_last (p ∷ all) w zero inside is = ap (λ (t : Bool). t || false) is
at_last (p ∷ all) w (suc j) inside is =
    ap (λ (t : Bool). bytes_eq p w || t) (at_last all w j (omega (arith, inside)) is) ∙ or_true (bytes_eq p w)
  where
    or_true : (a : Bool) → (a || true) ≡ true
    or_true true = refl
    or_true false = refl

-- a path that is wanted
pub looks_done : (all : Paths) (w : List ℕ) (j : ℕ) (p : List ℕ) → Looks all w (Some j) → p ≡ get_or all j [] → bytes_eq p w ≡ true → true ≡ has all w
looks_done all w j p l is wanted = sym (l.2 ∙ at_last all w j l.0 (ap (λ (q : List ℕ). bytes_eq q w) (sym is) ∙ wanted))

-- ---- entries

-- the entry at a place has the place before it
linked_from : (before : Paths) (all : List Entry) (i : ℕ) (e : Entry) → AreLinked before all → i < length all → e ≡ get_or all i e
    → e.before ≡ latest (before ++ take i (map path_of all)) (key (path_of e))
linked_from before [] i e linked inside is = absurd (omega (arith, inside))
linked_from before (x ∷ all) zero e linked inside is =
    let last = key (path_of e) in
    subst (λ (y : Entry). y.before ≡ latest before (key (path_of y))) (sym is) linked.0 ∙ ap (λ (ps : Paths). latest ps last) (sym (append-nil before))
linked_from before (x ∷ all) (suc i) e linked inside is =
    linked_from (before ++ path_of x ∷ []) all i e linked.1 (omega (arith, inside)) is
    ∙ ap (λ (ps : Paths). latest ps (key (path_of e))) (append_assoc before (path_of x ∷ []) (take i (map path_of all)))

pub linked_at : (all : List Entry) (i : ℕ) (e : Entry) → AreLinked [] all → i < length all → e ≡ get_or all i e
    → e.before ≡ latest (take i (map path_of all)) (key (path_of e))
linked_at = linked_from []

-- ---- a further entry

latest_added : (all : Paths) (p : List ℕ) (k : ℕ) → latest (all ++ p ∷ []) k ≡ (if key p == k then Some (length all) else latest all k)
latest_added [] p k = refl
latest_added (q ∷ all) p k =
    ap (λ (o : Option ℕ). or_here o (key q == k)) (latest_added all p k) ∙ by (key p == k)
  where
    by : (b : Bool) → or_here (if b then Some (length all) else latest all k) (key q == k)
        ≡ (if b then Some (suc (length all)) else or_here (latest all k) (key q == k))
    by true = refl
    by false = refl

paths_added : (all : List Entry) (e : Entry) → map path_of (all ++ e ∷ []) ≡ map path_of all ++ path_of e ∷ []
paths_added [] e = refl
paths_added (x ∷ all) e = ap (λ (ps : Paths). path_of x ∷ ps) (paths_added all e)

as_many : (all : List Entry) → length (map path_of all) ≡ length all
as_many [] = refl
as_many (x ∷ all) = ap suc (as_many all)

linked_added : (before : Paths) (all : List Entry) (e : Entry) → AreLinked before all
    → e.before ≡ latest (before ++ map path_of all) (key (path_of e)) → AreLinked before (all ++ e ∷ [])
linked_added before [] e linked is = (is ∙ ap (λ (ps : Paths). latest ps (key (path_of e))) (append-nil before), tt)
linked_added before (x ∷ all) e linked is = (
  linked.0,
  linked_added (before ++ path_of x ∷ []) all e linked.1
      (is ∙ ap (λ (ps : Paths). latest ps (key (path_of e))) (sym (append_assoc before (path_of x ∷ []) (map path_of all)))),
)

at_key : (k q : ℕ) → is_at (nat_cmp k) q ≡ (k == q)
at_key k q = grind (arith, nat_tests)

pub indexed_with : (old new : BTreeMap ℕ ℕ) (all more : List Entry) (e : Entry) (n k : ℕ) → IsIndexed old all → more ≡ all ++ e ∷ []
    → k ≡ key (path_of e) → n ≡ length all → e.before ≡ get nat_cmp old k → Updates nat_cmp old new k (Some n) → IsIndexed new more
indexed_with old new all more e n k is whole by_key last before updates = rw whole (record {
  found = λ q.
      updates.0 q ∙ ap (λ (b : Bool). cond b (Some n) (get nat_cmp old q)) (at_key k q)
      ∙ ap (λ (o : Option ℕ). cond (k == q) (Some n) o) (is.found q)
      ∙ ap (λ (m : ℕ). cond (k == q) (Some m) (latest (map path_of all) q)) (last ∙ sym (as_many all))
      ∙ ap (λ (m : ℕ). cond (m == q) (Some (length (map path_of all))) (latest (map path_of all) q)) by_key
      ∙ sym (ap (λ (ps : Paths). latest ps q) (paths_added all e) ∙ latest_added (map path_of all) (path_of e) q);
  linked = linked_added [] all e is.linked (before ∙ is.found k ∙ ap (latest (map path_of all)) by_key);
})

path_at : (all : List Entry) (i : ℕ) (e : Entry) → i < length all → e ≡ get_or all i e → path_of e ≡ get_or (map path_of all) i []
path_at [] i e inside is = absurd (omega (arith, inside))
path_at (x ∷ all) zero e inside is = ap path_of is
path_at (x ∷ all) (suc i) e inside is = path_at all i e (omega (arith, inside)) is

-- ---- a look-up over entries

pub is_inside : (all : List Entry) (w : List ℕ) (i : ℕ) (o : Option ℕ) → o ≡ Some i → Looks (map path_of all) w o → i < length all
is_inside all w i o is looks =
    let l = subst (Looks (map path_of all) w) is looks in
    omega (arith, l.0, as_many all)

module _ (all : List Entry) (w : List ℕ) (i : ℕ) (e : Entry) (inside : i < length all) (is : e ≡ get_or all i e)
    (looks : Looks (map path_of all) w (Some i)) where
  pub entry_wanted : bytes_eq (path_of e) w ≡ true → true ≡ has (map path_of all) w
  entry_wanted = looks_done (map path_of all) w i (path_of e) looks (path_at all i e inside is)

  pub entry_before : AreLinked [] all → bytes_eq (path_of e) w ≡ false → Looks (map path_of all) w e.before × (places_left e.before < suc i)
  entry_before linked not = looks_on (map path_of all) w i (path_of e) e.before looks (path_at all i e inside is) not (linked_at all i e linked inside is)
