-- Where the fields of a table stand.
use Rattle.std.proofs.Common.{◌≡◌, ℕ, zero, suc, ◌+◌, ◌-◌, ◌≤◌, ◌==◌, nat_le, nat_lt, Bool, true, false, cond}
use Rattle.std.proofs.Common.{List, [], ◌∷◌, ◌++◌, length, take, drop, refl, sym, ap, ◌∙◌, append_assoc, Option, Some, None}
use Rattle.std.specs.List.{flat_map}
use Rattle.std.proofs.Math.Seq.{take-append_seam, drop-append_seam}
use Rattle.std.proofs.lemmas.List.{append-nil, drop-append-le, drop-drop, take-append-drop}
use Rattle.std.proofs.lemmas.Bool.{ltb-false}
use Rattle.acpi_base.specs.declared.walk.Place.{Place}
use Rattle.acpi_text.specs.declared.form.Inner.{Inner}
use Rattle.acpi_text.specs.declared.form.Inner.TheVariants.{Nothing, Lists}
use Rattle.acpi_text.specs.declared.form.InnerForm.{InnerForm}
use Rattle.acpi_text.specs.declared.form.InnerList.{InnerList}
use Rattle.acpi_text.specs.declared.form.Part.{Part}
use Rattle.acpi_text.specs.declared.form.StructureForm.{StructureForm}
use Rattle.acpi_text.specs.Form.{number_at, count_of}
use Rattle.acpi_text.specs.Names.{Named, Wanted, sized, until, unnamed, part_fields, field_and, fields_of, parts_fields, no_fields}
use Rattle.acpi_text.specs.Names.{fields_by_form, inner_fields, lists_fields, content_fields, structure_fields, Stands, AllStand, FieldsStand}
use Rattle.acpi_text.specs.Piece.{SizeOf, OfBytes, piece_and, pieces_then, front_then}
use Rattle.acpi_text.specs.Size.{front_size, start_in, inner_form, inner_size}
use Rattle.acpi_text.specs.Structure.{all_forms, find_form, form_parts, form_inner}
use Rattle.acpi_text.specs.Table.{start_of}
use Rattle.acpi_text.proofs.Pieces.{AreWithin, front_within, inner_within}

module _ (table : List ℕ) where
  -- these bytes stand in the table at an offset
  abbrev At : ℕ → List ℕ → Type 0
  At at bytes = (rest : List ℕ) × (drop at table ≡ bytes ++ rest)

  at_front : (at size : ℕ) (bytes : List ℕ) → At at bytes → At at (take size bytes)
  at_front at size bytes (rest, is) = (
    drop size bytes ++ rest,
    is ∙ ap (λ (l : List ℕ). l ++ rest) (sym (take-append-drop size bytes)) ∙ append_assoc (take size bytes) (drop size bytes) rest,
  )

  at_rest : (at size : ℕ) (bytes : List ℕ) → At at bytes → size ≤ length bytes → At (at + size) (drop size bytes)
  at_rest at size bytes (rest, is) fits =
      (rest, sym (drop-drop size at table) ∙ ap (drop size) is ∙ drop-append-le size bytes rest fits)

  stands : (at : ℕ) (name bytes : List ℕ) → At at bytes → Stands table (record { offset = at; name = name; bytes = bytes })
  stands at name bytes (rest, is) = ap (take (length bytes)) is ∙ take-append_seam bytes rest

  all_append : (a b : List Named) → AllStand table a → AllStand table b → AllStand table (a ++ b)
  all_append [] b one two = two
  all_append (x ∷ a) b one two = (one.0, all_append a b one.1 two)

  -- a function finds fields that stand where its bytes do
  abbrev Finds : (ℕ → List ℕ → List Named) → Type 0
  Finds fields = (at : ℕ) (bytes : List ℕ) → At at bytes → AllStand table (fields at bytes)

  either_stand : (b : Bool) (one other : List Named) → AllStand table one → AllStand table other → AllStand table (cond b one other)
  either_stand true one other first second = first
  either_stand false one other first second = second

  none_or : (none short : Bool) (fields : List Named) → (short ≡ false → AllStand table fields) → AllStand table (cond none [] (cond short [] fields))
  none_or true short fields are = tt
  none_or false true fields are = tt
  none_or false false fields are = are refl

  field_stands : (others : ℕ → List ℕ → List Named) → Finds others → (at : ℕ) (name : List ℕ) (size : ℕ) (bytes : List ℕ) → At at bytes
      → AllStand table (field_and others at name size bytes)
  field_stands others find at name size bytes here =
      none_or (length bytes == 0) (nat_lt (length bytes) size) (record { offset = at; name = name; bytes = take size bytes } ∷ others (at + size) (drop size bytes))
      (λ is. (
        stands at name (take size bytes) (at_front at size bytes here),
        find (at + size) (drop size bytes) (at_rest at size bytes here (ltb-false _ _ is)),
      ))

  fields_stand : (wanted : List Wanted) → Finds (λ at bytes. fields_of at wanted bytes)
  fields_stand [] at bytes here = tt
  fields_stand (unnamed ∷ wanted) at bytes here = tt
  fields_stand (sized name size ∷ wanted) at bytes here =
      field_stands (λ k rest. fields_of k wanted rest) (fields_stand wanted) at name size bytes here
  fields_stand (until name end ∷ wanted) at bytes here =
      either_stand (nat_le end at) (fields_of at wanted bytes) (field_and (λ k rest. fields_of k wanted rest) at name (end - at) bytes)
      (fields_stand wanted at bytes here)
      (field_stands (λ k rest. fields_of k wanted rest) (fields_stand wanted) at name (end - at) bytes here)

  parts_stand : (list : List Part) → Finds (λ at piece. parts_fields list at piece)
  parts_stand list at piece here = fields_stand (flat_map (part_fields at piece) list) at piece here

  module _ (size : SizeOf) (within : AreWithin size) (fields others : OfBytes Named) (each : Finds fields) (left : Finds others) where
    front_stands : (front : Option ℕ) (n at : ℕ) (bytes : List ℕ) → size bytes ≡ front → At at bytes
        → Finds (λ k rest. pieces_then n size fields no_fields others k rest)
        → AllStand table (piece_and front fields (λ k rest. pieces_then n size fields no_fields others k rest) no_fields at bytes)
    front_stands None n at bytes is here more = tt
    front_stands (Some k) n at bytes is here more =
        all_append (fields at (take k bytes)) (pieces_then n size fields no_fields others (at + k) (drop k bytes))
        (each at (take k bytes) (at_front at k bytes here))
        (more (at + k) (drop k bytes) (at_rest at k bytes here (within k bytes is).fits))

    structures_stand : (n : ℕ) → Finds (λ at bytes. pieces_then n size fields no_fields others at bytes)
    structures_stand zero at bytes here = left at bytes here
    structures_stand (suc n) at bytes here = front_stands (size bytes) n at bytes refl here (structures_stand n)

  -- the bytes before an index are all bytes, or as many as the index says
  rest_stands : (start at : ℕ) (bytes : List ℕ) → At at bytes → At (at + length (take start bytes)) (drop start bytes)
  rest_stands start at bytes (rest, is) = (
    rest,
    sym (drop-drop (length (take start bytes)) at table) ∙ ap (drop (length (take start bytes))) is
        ∙ ap (λ (l : List ℕ). drop (length (take start bytes)) (l ++ rest)) (sym (take-append-drop start bytes))
        ∙ ap (drop (length (take start bytes))) (append_assoc (take start bytes) (drop start bytes) rest)
        ∙ drop-append_seam (take start bytes) (drop start bytes ++ rest),
  )

  fields_then_stand : (list : List Part) (start : ℕ) (others : OfBytes Named) → Finds others → Finds (λ at bytes. front_then (parts_fields list) start others at bytes)
  fields_then_stand list start others find at bytes here =
      let front = take start bytes in
      let rest = drop start bytes in
      all_append (parts_fields list at front) (others (at + length front) rest)
      (parts_stand list at front (at_front at start bytes here))
      (find (at + length front) rest (rest_stands start at bytes here))

  none_stand : Finds no_fields
  none_stand at bytes here = tt

  inner_stands : (form : Option InnerForm) → Finds (fields_by_form form)
  inner_stands (Some form) at piece here = parts_stand form.parts.now at piece here
  inner_stands None at piece here = tt

  lists_stand : (whole : List ℕ) (lists : List InnerList) → Finds (λ k rest. lists_fields whole lists k rest)
  lists_stand whole [] at bytes here = tt
  lists_stand whole (list ∷ lists) at bytes here =
      structures_stand (inner_size list) (inner_within list) (inner_fields list) (λ k rest. lists_fields whole lists k rest)
      (λ k piece stands. inner_stands (inner_form list piece) k piece stands) (lists_stand whole lists) (count_of list.count whole) at bytes here

  content_stands : (list : List Part) (inner : Inner) → Finds (λ at piece. content_fields list inner at piece)
  content_stands list Nothing at piece here = parts_stand list at piece here
  content_stands list (Lists start lists) at piece here =
      fields_then_stand list (start_in start piece) (λ k rest. lists_fields piece lists.now k rest) (lists_stand piece lists.now) at piece here

  structure_stands : (kind : Place) (forms : List StructureForm) → Finds (λ at piece. structure_fields kind forms at piece)
  structure_stands kind forms at piece here =
      let form = find_form (number_at kind piece) forms in
      content_stands (form_parts form) (form_inner form) at piece here

pub tables_stand : FieldsStand
tables_stand form None bytes = content_stands bytes form.parts.now form.inner.now 0 bytes ([], sym (append-nil bytes))
tables_stand form (Some walk) bytes =
    let fields : OfBytes Named = structure_fields walk.kind (all_forms form) in
    fields_then_stand bytes form.parts.now (start_of walk bytes) (λ k rest. pieces_then (length rest) (front_size walk.sizes) fields no_fields no_fields k rest)
    (λ k rest here. structures_stand bytes (front_size walk.sizes) (front_within walk.sizes) fields no_fields
    (structure_stands bytes walk.kind (all_forms form)) (none_stand bytes) (length rest) k rest here)
    0 bytes ([], sym (append-nil bytes))
