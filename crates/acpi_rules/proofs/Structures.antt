-- Structures, one after another.
use Rattle.std.proofs.Common.{◌≡◌, ℕ, zero, suc, ◌+◌, ◌-◌, ◌≤◌, List, [], ◌∷◌, ◌++◌, length, take, drop}
use Rattle.std.proofs.Common.{Option, Some, None, refl, sym, ap, ◌∙◌, append_assoc, arith}
use Rattle.std.proofs.lemmas.List.{length-drop, append-nil}
use Rattle.std.specs.List.{flat_map}
use Rattle.acpi_base.specs.declared.walk.Sizes.{Sizes}
use Rattle.acpi_text.specs.Size.{front_size}
use Rattle.acpi_text.proofs.Pieces.{IsWithin, front_within}
use Rattle.acpi_rules.specs.Field.{Structure, structure_and, structures_up_to, structures_of}

module _ (sizes : Sizes) where
  after_front : (front : Option ℕ) (m n at : ℕ) (bytes : List ℕ) → front_size sizes bytes ≡ front
      → ((size k : ℕ) → IsWithin size bytes
      → structures_up_to m sizes k (drop size bytes) ≡ structures_up_to n sizes k (drop size bytes))
      → structure_and front (λ k rest. structures_up_to m sizes k rest) at bytes
      ≡ structure_and front (λ k rest. structures_up_to n sizes k rest) at bytes
  after_front (Some size) m n at bytes is others =
      ap (λ l. record { offset = at; bytes = take size bytes } ∷ l) (others size (at + size) (front_within sizes size bytes is))
  after_front None m n at bytes is others = refl

  none_fits : (front : Option ℕ) (m at : ℕ) (bytes : List ℕ) → front_size sizes bytes ≡ front → length bytes ≤ 0
      → structure_and front (λ k rest. structures_up_to m sizes k rest) at bytes ≡ []
  none_fits (Some size) m at bytes is none = let within = front_within sizes size bytes is in absurd
      (omega (arith, none, within.some, within.fits))
  none_fits None m at bytes is none = refl

  -- any number from that of the bytes on gives the same structures
  enough : (m n at : ℕ) (bytes : List ℕ) → length bytes ≤ m → length bytes ≤ n
      → structures_up_to m sizes at bytes ≡ structures_up_to n sizes at bytes
  enough zero zero at bytes one two = refl
  enough zero (suc n) at bytes one two = sym (none_fits (front_size sizes bytes) n at bytes refl one)
  enough (suc m) zero at bytes one two = none_fits (front_size sizes bytes) m at bytes refl two
  enough (suc m) (suc n) at bytes one two =
      after_front (front_size sizes bytes) m n at bytes refl
      (λ size k within. enough m n k (drop size bytes)
      (omega (arith, one, within.some, within.fits, length-drop size bytes))
      (omega (arith, two, within.some, within.fits, length-drop size bytes)))

  pub one_more : (at size : ℕ) (bytes : List ℕ) → front_size sizes bytes ≡ Some size
      → structures_of sizes at bytes ≡ record { offset = at; bytes = take size bytes }
      ∷ structures_of sizes (at + size) (drop size bytes)
  one_more at size bytes is =
      let within = front_within sizes size bytes is in
      let n = length bytes - 1 in
      let rest = drop size bytes in
      ap (λ k. structures_up_to k sizes at bytes) (let e : length bytes ≡ suc n = omega (arith, within.some, within.fits) in e)
      ∙ ap (λ front. structure_and front (λ k rest. structures_up_to n sizes k rest) at bytes) is
      ∙ ap (λ l. record { offset = at; bytes = take size bytes } ∷ l)
      (enough n (length rest) (at + size) rest (omega (arith, within.some, within.fits, length-drop size bytes)) (omega arith))

  no_more : (n at : ℕ) (bytes : List ℕ) → front_size sizes bytes ≡ None → structures_up_to n sizes at bytes ≡ []
  no_more zero at bytes is = refl
  no_more (suc n) at bytes is = ap (λ front. structure_and front (λ k rest. structures_up_to n sizes k rest) at bytes) is

  module _ {X : Type 0} (what : Structure → List X) where
    -- what the next structure has was added
    pub goes_on : (at size : ℕ) (front : Option ℕ) (rest piece more : List ℕ) (old now new : List X)
        → front ≡ front_size sizes rest → front ≡ Some size
        → piece ≡ take size rest → more ≡ drop size rest → now ++ flat_map what (structures_of sizes at rest) ≡ old
        → new ≡ now ++ what (record { offset = at; bytes = piece })
        → new ++ flat_map what (structures_of sizes (at + size) more) ≡ old
    goes_on at size front rest piece more old now new found is one two before added =
        let others = flat_map what (structures_of sizes (at + size) (drop size rest)) in
        let this = what (record { offset = at; bytes = take size rest }) in
        ap (λ l. new ++ flat_map what (structures_of sizes (at + size) l)) two
        ∙ ap (λ (l : List X). l ++ others) (added ∙ ap (λ l. now ++ what (record { offset = at; bytes = l })) one)
        ∙ append_assoc now this others
        ∙ ap (λ l. now ++ flat_map what l) (sym (one_more at size rest (sym found ∙ is)))
        ∙ before

    -- no structure is left
    pub ends : (at : ℕ) (front : Option ℕ) (rest : List ℕ) (old now : List X) → front ≡ front_size sizes rest → front ≡ None
        → now ++ flat_map what (structures_of sizes at rest) ≡ old → now ≡ old
    ends at front rest old now found is before =
        sym (append-nil now)
        ∙ ap (λ l. now ++ flat_map what l) (sym (no_more (length rest) at rest (sym found ∙ is)))
        ∙ before
