-- Entries of fields, one after another.
use Rattle.std.proofs.Common.{◌≡◌, ℕ, ◌+◌, ◌<◌, ◌^◌, List, [], ◌∷◌, ◌++◌, length, map, take, drop, get_or, Bool, true, false, cond, Some, None, refl, sym, ◌∙◌, ap, append_assoc}
use Rattle.std.specs.Prelude.{Option, nat_lt}
use Rattle.std.proofs.lemmas.List.{take_more, take-append-drop, map-append, append-nil}
use Rattle.acpi_base.specs.declared.error.Error.{Error}
use Rattle.acpi_base.specs.declared.error.Error.TheVariants.{PkgLength}
use Rattle.acpi_term.specs.Tree.{Entry}
use Rattle.acpi_term.specs.Row.{entry_length, entry_bytes, entries_bytes, entries_end}

entries_bytes-append : (a b : List Entry) → entries_bytes (a ++ b) ≡ entries_bytes a ++ entries_bytes b
entries_bytes-append [] b = refl
entries_bytes-append (e ∷ a) b = ap (λ (t : List ℕ). entry_bytes e ++ t) (entries_bytes-append a b) ∙ sym (append_assoc (entry_bytes e) (entries_bytes a) (entries_bytes b))

-- one entry fits, and then the others end
first_fits : (test : Bool) (rest : Option Error) → cond test rest (Some PkgLength) ≡ None → (test ≡ true) × (rest ≡ None)
first_fits true rest h = (refl, h)
first_fits false rest h = absurd cc

entries_end-append : (a b : List Entry) → entries_end a ≡ None → entries_end (a ++ b) ≡ entries_end b
entries_end-append [] b h = refl
entries_end-append (e ∷ a) b h =
    let f = first_fits (nat_lt (entry_length e) (2 ^ 28)) (entries_end a) h in
    rw f.0 (entries_end-append a b f.1)

-- what ends one entry ends all that begin with it
first_ends : (test : Bool) (rest : Option Error) (e : Error) → cond test None (Some PkgLength) ≡ Some e → cond test rest (Some PkgLength) ≡ Some e
first_ends true rest e h = absurd cc
first_ends false rest e h = h

-- a loop over values that stand for entries, at the next value
module _ {X : Type 0} (entry : X → Entry) (xs : List X) (i : ℕ) (x : X) (inside : i < length xs) (is : x ≡ get_or xs i x) where
  taken : map entry (take (i + 1) xs) ≡ map entry (take i xs) ++ entry x ∷ []
  taken = rw (take_more xs i x inside, map-append) (ap (λ (t : X). map entry (take i xs) ++ entry t ∷ []) (sym is))

  parted : map entry xs ≡ map entry (take i xs) ++ entry x ∷ map entry (drop (i + 1) xs)
  parted =
      ap (map entry) (sym (take-append-drop (i + 1) xs)) ∙ map-append entry (take (i + 1) xs) (drop (i + 1) xs)
      ∙ ap (λ t. t ++ map entry (drop (i + 1) xs)) taken
      ∙ append_assoc (map entry (take i xs)) (entry x ∷ []) (map entry (drop (i + 1) xs))

  pub joined_next : (old mid new : List ℕ) → mid ≡ old ++ entries_bytes (map entry (take i xs)) → new ≡ mid ++ entry_bytes (entry x) → new ≡ old ++ entries_bytes (map entry (take (i + 1) xs))
  joined_next old mid new before here =
      here ∙ ap (λ t. t ++ entry_bytes (entry x)) before ∙ append_assoc old (entries_bytes (map entry (take i xs))) (entry_bytes (entry x))
      ∙ ap (λ t. old ++ t) (ap (λ (t : List ℕ). entries_bytes (map entry (take i xs)) ++ t) (sym (append-nil (entry_bytes (entry x)))) ∙ sym (entries_bytes-append (map entry (take i xs)) (entry x ∷ [])) ∙ ap entries_bytes (sym taken))

  pub whole_next : entries_end (map entry (take i xs)) ≡ None → entries_end (entry x ∷ []) ≡ None → entries_end (map entry (take (i + 1) xs)) ≡ None
  whole_next before here = rw taken (entries_end-append (map entry (take i xs)) (entry x ∷ []) before ∙ here)

  pub ends_here : (e : Error) → entries_end (map entry (take i xs)) ≡ None → entries_end (entry x ∷ []) ≡ Some e → entries_end (map entry xs) ≡ Some e
  ends_here e before here =
      rw parted (entries_end-append (map entry (take i xs)) (entry x ∷ map entry (drop (i + 1) xs)) before
      ∙ first_ends (nat_lt (entry_length (entry x)) (2 ^ 28)) (entries_end (map entry (drop (i + 1) xs))) e here)
