-- Entries, one after another.
use Rattle.std.proofs.Common.{◌≡◌, ℕ, zero, suc, ◌+◌, ◌-◌, ◌<◌, ◌≤◌, cond, List, [], ◌∷◌, ◌++◌, length, take, drop}
use Rattle.std.proofs.Common.{refl, sym, ap, ◌∙◌, append_assoc, arith}
use Rattle.std.proofs.lemmas.List.{append-nil}
use Rattle.std.proofs.lemmas.Bool.{le-leb, lt-leb}
use Rattle.std.specs.List.{flat_map}
use Rattle.acpi_rules.specs.Field.{Structure}
use Rattle.acpi_rules.specs.Item.{entries}

one_more : (left size at : ℕ) (bytes : List ℕ) → 0 < left → size ≤ length bytes
    → entries left size at bytes ≡ record { offset = at; bytes = take size bytes }
    ∷ entries (left - 1) size (at + size) (drop size bytes)
one_more zero size at bytes some fits = absurd (omega (arith, some))
one_more (suc n) size at bytes some fits =
    ap (λ b. cond b (record { offset = at; bytes = take size bytes } ∷ entries n size (at + size) (drop size bytes)) [])
    (le-leb size (length bytes) fits)
    ∙ ap (λ k. record { offset = at; bytes = take size bytes } ∷ entries k size (at + size) (drop size bytes))
    (let e : n ≡ suc n - 1 = omega arith in e)

no_more : (left size at : ℕ) (bytes : List ℕ) → length bytes < size → entries left size at bytes ≡ []
no_more zero size at bytes short = refl
no_more (suc n) size at bytes short =
    ap (λ b. cond b (record { offset = at; bytes = take size bytes } ∷ entries n size (at + size) (drop size bytes)) [])
    (lt-leb size (length bytes) short)

module _ {X : Type 0} (what : Structure → List X) where
  -- what the next entry has was added
  pub entry_added : (left size at : ℕ) (rest piece more : List ℕ) (old now new : List X) → 0 < left → size ≤ length rest
      → piece ≡ take size rest → more ≡ drop size rest → now ++ flat_map what (entries left size at rest) ≡ old
      → new ≡ now ++ what (record { offset = at; bytes = piece })
      → new ++ flat_map what (entries (left - 1) size (at + size) more) ≡ old
  entry_added left size at rest piece more old now new some fits one two before added =
      let others = flat_map what (entries (left - 1) size (at + size) (drop size rest)) in
      let this = what (record { offset = at; bytes = take size rest }) in
      ap (λ l. new ++ flat_map what (entries (left - 1) size (at + size) l)) two
      ∙ ap (λ (l : List X). l ++ others) (added ∙ ap (λ l. now ++ what (record { offset = at; bytes = l })) one)
      ∙ append_assoc now this others
      ∙ ap (λ l. now ++ flat_map what l) (sym (one_more left size at rest some fits))
      ∙ before

  -- no entry is left
  pub none_left : (size at : ℕ) (rest : List ℕ) (old now : List X) → now ++ flat_map what (entries 0 size at rest) ≡ old → now ≡ old
  none_left size at rest old now before = sym (append-nil now) ∙ before

  pub none_fits : (left size at : ℕ) (rest : List ℕ) (old now : List X) → length rest < size
      → now ++ flat_map what (entries left size at rest) ≡ old → now ≡ old
  none_fits left size at rest old now short before =
      sym (append-nil now) ∙ ap (λ l. now ++ flat_map what l) (sym (no_more left size at rest short)) ∙ before
