-- An index of a list, after a number is added to both.
use Rattle.std.proofs.Common.{◌≡◌, ℕ, true, false, cond, List, [], ◌∷◌, ◌++◌, Option, Some, None, is_some, refl, sym, ap, ◌∙◌, arith, Ordering, Less, Equal, Greater, nat_cmp, is_eq, ◌≢◌, true≢false, unwrap_or, subst, Bool}
use Rattle.std.specs.Prelude.{not}
use Rattle.std.proofs.lemmas.Map.Lookups.{exact_bytes}
use Rattle.std.proofs.lemmas.Map.Text.{is_eq-slice_cmp}
use Rattle.std.proofs.lemmas.Slice.Eq.{bytes_eq-Decides}
use Rattle.std.specs.BTreeMap.{is_at, insert_entry}
use Rattle.std.specs.Cmp.Lexicographic.{slice_cmp}
use Rattle.std.specs.Map.{lookup}
use Rattle.std.specs.Ordering.{match_ordering}
use Rattle.std.specs.Str.{bytes_eq}
use Rattle.acpi_term.specs.Arity.{is_stated, arity, with_new}
use Rattle.acpi_term.specs.ArityIndex.{number_of, Indexes, IsIndexed}
use Rattle.acpi_term.specs.Name.{begins_up, without_parents}
use Rattle.acpi_term.specs.declared.arity_index.ArityIndex.{ArityIndex}

-- ---- lists

-- a list with a further number: it is that of its name, unless the list has one
pub number_of_append : (all : List (List ℕ × ℕ)) (a : List ℕ × ℕ) (name : List ℕ)
    → number_of (all ++ a ∷ []) name ≡ cond (is_some (number_of all name)) (number_of all name) (cond (bytes_eq a.0 name) (Some a.1) None)
number_of_append [] a name = refl
number_of_append (b ∷ all) a name = grind (arith, number_of_append all a name)

-- a name that a list states is there
pub is_stated_by : (all : List (List ℕ × ℕ)) (name : List ℕ) → is_stated all name ≡ is_some (number_of all name)
is_stated_by [] name = refl
is_stated_by (b ∷ all) name = grind (arith, is_stated_by all name)

-- a list with a number of a name that it states
pub with_stated : (all : List (List ℕ × ℕ)) (a : List ℕ × ℕ) → is_some (number_of all a.0) ≡ true → all ≡ with_new all a
with_stated all a e = ap (λ b. cond b all (all ++ a ∷ [])) (sym (is_stated_by all a.0 ∙ e))

-- a list with the number of a further name
pub with_further : (all : List (List ℕ × ℕ)) (a : List ℕ × ℕ) → is_some (number_of all a.0) ≡ false → all ++ a ∷ [] ≡ with_new all a
with_further all a e = ap (λ b. cond b all (all ++ a ∷ [])) (sym (is_stated_by all a.0 ∙ e))

-- a name takes the number that a list states for it, or none
pub arity_by : (all : List (List ℕ × ℕ)) (name : List ℕ) → arity all name ≡ unwrap_or (number_of all name) 0
arity_by [] name = refl
arity_by (b ∷ all) name = grind (arith, arity_by all name)

-- a name that doesn't begin with `^` is itself without them
pub as_it_is : (name : List ℕ) → begins_up name ≡ false → without_parents name ≡ name
as_it_is [] e = refl
as_it_is (b ∷ rest) e = ap (λ t. cond t (without_parents rest) (b ∷ rest)) e

-- the index that there is
pub the_index : (o : Option ArityIndex) (index : ArityIndex) (all : List (List ℕ × ℕ)) → o ≡ Some index → IsIndexed o all → Indexes index all
the_index o index all is h = subst (λ (x : Option ArityIndex). IsIndexed x all) is h

same_name : (a b : List ℕ) → bytes_eq a b ≡ true → a ≡ b
same_name a b e = (bytes_eq-Decides a b).0 e

-- a number of a name that a list states already changes nothing
pub stays : (all : List (List ℕ × ℕ)) (a : List ℕ × ℕ) (name : List ℕ) → is_some (number_of all a.0) ≡ true
    → number_of (all ++ a ∷ []) name ≡ number_of all name
stays all a name e = grind (arith, number_of_append all a name, same_name a.0 name)

-- the number of a further name
pub grows : (all : List (List ℕ × ℕ)) (a : List ℕ × ℕ) (name : List ℕ) → is_some (number_of all a.0) ≡ false
    → number_of (all ++ a ∷ []) name ≡ cond (bytes_eq a.0 name) (Some a.1) (number_of all name)
grows all a name e = grind (arith, number_of_append all a name, same_name a.0 name)

symmetric : (a b : List ℕ) → bytes_eq a b ≡ bytes_eq b a
symmetric [] [] = refl
symmetric [] (y ∷ b) = refl
symmetric (x ∷ a) [] = refl
symmetric (x ∷ a) (y ∷ b) = grind (arith, symmetric a b)

-- ---- whether a name was found, from whether it is the first

pub is_there : (b : Bool) → false ≡ not b → b ≡ true
is_there true e = refl
is_there false e = absurd (true≢false (sym e))

pub is_further : (b : Bool) → true ≡ not b → b ≡ false
is_further true e = absurd (true≢false e)
is_further false e = refl

-- ---- maps whose keys have bytes

module _ {K : Type 0} (f : K → List ℕ) (name : List ℕ) where
  -- how a name compares to a key
  abbrev pub query : K → Ordering
  query key = slice_cmp nat_cmp name (f key)

  named : (k : K) → is_at query k ≡ true → name ≡ f k
  named k e = same_name name (f k) (sym (is_eq-slice_cmp name (f k)) ∙ e)

-- the order of keys is that of their bytes
abbrev pub order : {K : Type 0} → (K → List ℕ) → K → K → Ordering
order f a b = slice_cmp nat_cmp (f a) (f b)

apart : {K : Type 0} (f : K → List ℕ) (a b : K) → order f a b ≡ Greater → f a ≢ f b
apart f a b h same = absurd (true≢false (sym ((bytes_eq-Decides (f a) (f b)).1 same) ∙ sym (is_eq-slice_cmp (f a) (f b)) ∙ ap is_eq h))

lookup-insert_entry : {K : Type 0} (f : K → List ℕ) (name : List ℕ) (es : List (K × ℕ)) (k : K) (v : ℕ)
    → lookup (is_at (query f name)) (insert_entry (order f) es k v) ≡ cond (is_at (query f name) k) (Some v) (lookup (is_at (query f name)) es)
lookup-insert_entry f name [] k v = refl
lookup-insert_entry f name (e ∷ es) k v = by (order f k e.0) refl (lookup-insert_entry f name es k v)
  where
    by : (r : Ordering) → order f k e.0 ≡ r
        → lookup (is_at (query f name)) (insert_entry (order f) es k v) ≡ cond (is_at (query f name) k) (Some v) (lookup (is_at (query f name)) es)
        → lookup (is_at (query f name)) (match_ordering r ((k, v) ∷ e ∷ es) ((e.0, v) ∷ es) (e ∷ insert_entry (order f) es k v))
        ≡ cond (is_at (query f name) k) (Some v) (lookup (is_at (query f name)) (e ∷ es))
    by Less h more = refl
    by Equal h more =
        let at : is_at (query f name) e.0 ≡ is_at (query f name) k = ap (λ s. is_eq (slice_cmp nat_cmp name s)) (sym (exact_bytes (f k) (f e.0) h)) in
        grind (arith, at)
    by Greater h more = grind (arith, more, apart f k e.0 h, named f name k, named f name e.0)

-- an index of a list, with a further name in both
pub extends : {K : Type 0} (f : K → List ℕ) (es : List (K × ℕ)) (k : K) (v : ℕ) (bytes : List ℕ) (all : List (List ℕ × ℕ)) → f k ≡ bytes
    → ((name : List ℕ) → lookup (is_at (query f name)) es ≡ number_of all name) → is_some (number_of all bytes) ≡ false
    → (name : List ℕ) → lookup (is_at (query f name)) (insert_entry (order f) es k v) ≡ number_of (all ++ (bytes, v) ∷ []) name
extends f es k v bytes all key is new name =
    let at : is_at (query f name) k ≡ bytes_eq bytes name = ap (λ s. is_eq (slice_cmp nat_cmp name s)) key ∙ is_eq-slice_cmp name bytes ∙ symmetric name bytes in
    lookup-insert_entry f name es k v ∙ grind (arith, is name, grows all (bytes, v) name new, at)
