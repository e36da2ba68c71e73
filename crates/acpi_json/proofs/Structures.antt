-- The objects of structures, one after another.
use Rattle.std.proofs.Common.{◌≡◌, ℕ, ◌+◌, Bool, false, List, ◌++◌, length, take, drop, Option, Some, sym, ap, ◌∙◌, append_assoc}
use Rattle.acpi_base.specs.declared.walk.Place.{Place}
use Rattle.acpi_base.specs.declared.walk.Sizes.{Sizes}
use Rattle.acpi_json.specs.Table.{structure, elements, fields_member, structures_member, parts_members}
use Rattle.acpi_json.specs.Text.{separator}
use Rattle.acpi_rules.proofs.Structures.{one_more}
use Rattle.acpi_rules.specs.Field.{structures_of, parts_fields}
use Rattle.acpi_text.specs.Size.{front_size}
use Rattle.acpi_text.specs.Table.{start_of}
use Rattle.acpi_text.specs.declared.form.TableForm.{TableForm}
use Rattle.acpi_base.specs.declared.walk.Walk.{Walk}
use Rattle.acpi_text.specs.declared.form.StructureForm.{StructureForm}

module _ (kind : Place) (forms : List StructureForm) (sizes : Sizes) where
  -- the next structure was added
  pub element_added : (first : Bool) (at size : ℕ) (front : Option ℕ) (rest piece more old now comma new : List ℕ)
      → front ≡ front_size sizes rest → front ≡ Some size
      → piece ≡ take size rest → more ≡ drop size rest
      → now ++ elements kind forms first (structures_of sizes at rest) ≡ old
      → comma ≡ now ++ separator first
      → new ≡ comma ++ structure kind forms (record { offset = at; bytes = piece })
      → new ++ elements kind forms false (structures_of sizes (at + size) more) ≡ old
  element_added first at size front rest piece more old now comma new found is one two before parted added =
      let others = elements kind forms false (structures_of sizes (at + size) (drop size rest)) in
      let this = structure kind forms (record { offset = at; bytes = take size rest }) in
      ap (λ l. new ++ elements kind forms false (structures_of sizes (at + size) l)) two
      ∙ ap (λ (l : List ℕ). l ++ others) (added ∙ ap (λ l. comma ++ structure kind forms (record { offset = at; bytes = l })) one
      ∙ ap (λ (l : List ℕ). l ++ this) parted)
      ∙ append_assoc (now ++ separator first) this others
      ∙ append_assoc now (separator first) (this ++ others)
      ∙ ap (λ l. now ++ elements kind forms first l) (sym (one_more sizes at size rest (sym found ∙ is)))
      ∙ before

-- the fields before structures were added, and these
pub members_added : (form : TableForm) (walk : Walk) (start : ℕ) (bytes front others old now new : List ℕ)
    → start ≡ start_of walk bytes → front ≡ take start bytes → others ≡ drop start bytes
    → now ≡ old ++ fields_member (parts_fields form.parts.now 0 front) → new ≡ now ++ structures_member walk form (length front) others
    → new ≡ old ++ parts_members form (Some walk) bytes
members_added form walk start bytes front others old now new begins one two first second =
    let one_is : front ≡ take (start_of walk bytes) bytes = one ∙ ap (λ k. take k bytes) begins in
    let two_is : others ≡ drop (start_of walk bytes) bytes = two ∙ ap (λ k. drop k bytes) begins in
    let F : List ℕ → List ℕ = λ f. fields_member (parts_fields form.parts.now 0 f) in
    let S : List ℕ → List ℕ → List ℕ = λ f o. structures_member walk form (length f) o in
    second
    ∙ ap (λ (l : List ℕ). l ++ S front others) first
    ∙ append_assoc old (F front) (S front others)
    ∙ ap (λ f. old ++ (F f ++ S f others)) one_is
    ∙ ap (λ o. old ++ (F (take (start_of walk bytes) bytes) ++ S (take (start_of walk bytes) bytes) o)) two_is
