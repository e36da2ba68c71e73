-- Fields that are sought by name.
use Rattle.std.proofs.Common.{◌≡◌, ℕ, ◌+◌, ◌<◌, ◌≤◌, nat_le, ◌&&◌, Bool, true, false, cond, List, [], ◌∷◌, ◌++◌, length, drop, get_or, Option, Some, refl, sym, ap, ◌∙◌}
use Rattle.std.specs.List.{flat_map}
use Rattle.std.proofs.lemmas.List.{at_drop_more, drop_all}
use Rattle.acpi_make.specs.Entry.{Entry, IsSearch, is_of, next_number, number_after, find_entry, or_else}
use Rattle.acpi_make.specs.declared.entry.Field.{Field}
use Rattle.acpi_make.specs.declared.entry.Search.{Search}
use Rattle.acpi_make.specs.declared.entry.Search.TheVariants.{Found, Missing}

either : (b : Bool) (x : ℕ × Entry) (one two : Option (ℕ × Entry)) → cond b (Some x) (or_else one two) ≡ or_else (cond b (Some x) one) two
either true x one two = refl
either false x one two = refl

-- the fields of two lists
pub find_append : (k least : ℕ) (line : List ℕ) (a b : List Entry)
    → find_entry k least line (a ++ b) ≡ or_else (find_entry k least line a) (find_entry (number_after k a) least line b)
find_append k least line [] b = refl
find_append k least line (one ∷ a) b =
    ap (cond (nat_le least k && is_of line one) (Some (k, one))) (find_append (next_number k) least line a b)
    ∙ either (nat_le least k && is_of line one) (k, one) (find_entry (next_number k) least line a)
    (find_entry (number_after (next_number k) a) least line b)

after_append : (k : ℕ) (a b : List Entry) → number_after k (a ++ b) ≡ number_after (number_after k a) b
after_append k [] b = refl
after_append k (one ∷ a) b = after_append (next_number k) a b

-- The fields of these parts from an index on are left to be searched, and the first of them has the number `next`.
pub record Unsearched {A : Type 0} (fields : A → List Entry) (parts : List A) (i next k least : ℕ) (line : List ℕ) : Type 0 where
  pub after : number_after next (flat_map fields (drop i parts)) ≡ number_after k (flat_map fields parts)
  pub same : find_entry next least line (flat_map fields (drop i parts)) ≡ find_entry k least line (flat_map fields parts)

module _ {A : Type 0} (fields : A → List Entry) (parts : List A) (i next k least : ℕ) (line : List ℕ) (unset : A) where
  -- the fields of the part at the index, and of those after it
  here : i < length parts → flat_map fields (drop i parts) ≡ fields (get_or parts i unset) ++ flat_map fields (drop (i + 1) parts)
  here inside = at_drop_more (flat_map fields) parts i unset inside

  pub found_here : (number : ℕ) (field : Field) → Unsearched fields parts i next k least line → i < length parts
      → IsSearch (Found number field) next least line (fields (get_or parts i unset))
      → IsSearch (Found number field) k least line (flat_map fields parts)
  found_here number field left inside found =
      let others = flat_map fields (drop (i + 1) parts) in
      let one = fields (get_or parts i unset) in
      (sym left.same ∙ ap (find_entry next least line) (here inside) ∙ find_append next least line one others
      ∙ ap (λ first. or_else first (find_entry (number_after next one) least line others)) found)

  pub missing_here : (later : ℕ) → Unsearched fields parts i next k least line → i < length parts
      → IsSearch (Missing later) next least line (fields (get_or parts i unset))
      → Unsearched fields parts (i + 1) later k least line
  missing_here later left inside missing =
      let others = flat_map fields (drop (i + 1) parts) in
      let one = fields (get_or parts i unset) in
      record {
        after =
            ap (λ n. number_after n others) missing.0
            ∙ sym (ap (number_after next) (here inside) ∙ after_append next one others)
            ∙ left.after;
        same =
            ap (λ n. find_entry n least line others) missing.0
            ∙ sym (ap (λ first. or_else first (find_entry (number_after next one) least line others)) missing.1)
            ∙ sym (ap (find_entry next least line) (here inside) ∙ find_append next least line one others)
            ∙ left.same;
      }

pub all_searched : {A : Type 0} (fields : A → List Entry) (parts : List A) (i next k least : ℕ) (line : List ℕ)
    → Unsearched fields parts i next k least line → length parts ≤ i → IsSearch (Missing next) k least line (flat_map fields parts)
all_searched fields parts i next k least line left past =
    let none = ap (flat_map fields) (drop_all i parts past) in
    (sym (ap (number_after next) none) ∙ left.after, sym left.same ∙ ap (find_entry next least line) none)

-- ---- two lists, one after the other

module _ (k least : ℕ) (line : List ℕ) (a b : List Entry) where
  both : find_entry k least line (a ++ b) ≡ or_else (find_entry k least line a) (find_entry (number_after k a) least line b)
  both = find_append k least line a b

  -- what was found in the first list
  pub first_found : (number : ℕ) (field : Entry) → find_entry k least line a ≡ Some (number, field)
      → find_entry k least line (a ++ b) ≡ Some (number, field)
  first_found number field found = both ∙ ap (λ first. or_else first (find_entry (number_after k a) least line b)) found

  -- nothing was found there
  pub first_missing : (next : ℕ) → IsSearch (Missing next) k least line a → find_entry k least line (a ++ b) ≡ find_entry next least line b
  first_missing next missing =
      both ∙ ap (λ first. or_else first (find_entry (number_after k a) least line b)) missing.1
      ∙ ap (λ n. find_entry n least line b) (sym missing.0)

-- a search of the second list, after nothing was found in the first
pub then_search : (search : Search) (k least next : ℕ) (line : List ℕ) (a b : List Entry) → IsSearch (Missing next) k least line a
    → IsSearch search next least line b → IsSearch search k least line (a ++ b)
then_search (Found number field) k least next line a b missing found = first_missing k least line a b next missing ∙ found
then_search (Missing last) k least next line a b missing none =
    (none.0 ∙ ap (λ n. number_after n b) missing.0 ∙ sym (after_append k a b), first_missing k least line a b next missing ∙ none.1)
