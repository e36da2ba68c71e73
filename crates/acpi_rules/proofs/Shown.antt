-- The fields of a table are those of its text.
use Rattle.std.proofs.Common.{◌≡◌, ℕ, zero, suc, ◌+◌, ◌-◌, ◌*◌, ◌==◌, nat_lt, nat_le, Bool, true, false, cond, List, [], ◌∷◌}
use Rattle.std.proofs.Common.{◌++◌}
use Rattle.std.proofs.Common.{length, take, drop, map, Option, Some, None, refl, sym, ap, ◌∙◌, append_assoc, arith}
use Rattle.std.proofs.lemmas.Bool.{eqb-true}
use Rattle.std.proofs.lemmas.List.{append-nil, map-append}
use Rattle.std.specs.List.{flat_map, slice_range}
use Rattle.acpi_base.specs.Look.{Look}
use Rattle.acpi_base.specs.Look as looks
use Rattle.acpi_base.specs.declared.row.Row.{Row}
use Rattle.acpi_base.specs.declared.row.Row.TheVariants as rows
use Rattle.acpi_base.specs.declared.walk.Sizes.{Sizes}
use Rattle.acpi_text.specs.Form.{number_at, count_of, size_between, find_choice}
use Rattle.acpi_text.specs.Names as names
use Rattle.acpi_text.specs.Piece.{SizeOf, OfBytes, piece_and, pieces_then, front_then}
use Rattle.acpi_text.specs.Size.{front_size, start_in, inner_form, inner_size}
use Rattle.acpi_text.specs.Structure.{all_forms, find_form, form_parts, form_inner}
use Rattle.acpi_text.specs.Table.{start_of}
use Rattle.acpi_text.specs.declared.form.Choice.{Choice}
use Rattle.acpi_text.specs.declared.form.Inner.{Inner}
use Rattle.acpi_text.specs.declared.form.Inner.TheVariants.{Nothing, Lists}
use Rattle.acpi_text.specs.declared.form.InnerForm.{InnerForm}
use Rattle.acpi_text.specs.declared.form.InnerList.{InnerList}
use Rattle.acpi_text.specs.declared.form.Part.{Part}
use Rattle.acpi_text.specs.declared.form.Part.TheVariants as parts
use Rattle.acpi_rules.proofs.Found.{all_none}
use Rattle.acpi_rules.specs.Field.{Field, Wanted, sized, until, unnamed, row_wanted, rows_wanted, times, choice_wanted}
use Rattle.acpi_rules.specs.Field.{optional_wanted, part_wanted}
use Rattle.acpi_rules.specs.Field.{Found, ended, after_field, after_all, from, parts_fields, Structure, structure_and}
use Rattle.acpi_rules.specs.Field.{structures_up_to, structures_of, no_fields, fields_by_form, inner_fields, lists_fields, content_fields, structure_fields}
use Rattle.acpi_rules.specs.Laws.{plain, FieldsAreShown}

-- ---- what forms say

forget : Wanted → names.Wanted
forget (sized name look width size) = names.sized name size
forget (until name end) = names.until name end
forget unnamed = names.unnamed

row_same : (row : Row) → map forget (row_wanted row) ≡ names.row_fields row
unfolding forget
row_same (rows.Number name w) = refl
row_same (rows.Hex name w) = refl
row_same (rows.Preset name w value) = refl
row_same (rows.Reference name w) = refl
row_same (rows.Flags name w bits) = refl
row_same (rows.OneOf name w words) = refl
row_same (rows.Bytes name n) = refl
row_same (rows.Text name n) = refl
row_same (rows.Uuid name) = refl
row_same (rows.Register name) = refl
row_same (rows.Reserved n) = refl

rows_same : (rows : List Row) → map forget (rows_wanted rows) ≡ names.rows_fields rows
rows_same [] = refl
rows_same (row ∷ rows) =
    map-append forget (row_wanted row) (rows_wanted rows)
    ∙ ap (λ l. l ++ map forget (rows_wanted rows)) (row_same row)
    ∙ ap (λ l. names.row_fields row ++ l) (rows_same rows)

times_same : (n : ℕ) (wanted : List Wanted) (fields : List names.Wanted) → map forget wanted ≡ fields
    → map forget (times n wanted) ≡ names.times n fields
times_same zero wanted fields same = refl
times_same (suc n) wanted fields same =
    map-append forget wanted (times n wanted)
    ∙ ap (λ l. l ++ map forget (times n wanted)) same
    ∙ ap (λ l. fields ++ l) (times_same n wanted fields same)

choice_same : (choice : Option Choice) → map forget (choice_wanted choice) ≡ names.choice_fields choice
unfolding forget
choice_same (Some choice) = rows_same choice.rows.now
choice_same None = refl

optional_same : (choice : Option Choice) → map forget (optional_wanted choice) ≡ names.optional_fields choice
optional_same (Some choice) = rows_same choice.rows.now
optional_same None = refl

lists_same : (b : Bool) (n : ℕ) (wanted : List Wanted) (fields : List names.Wanted) → map forget wanted ≡ fields
    → map forget (cond b [] (times n wanted)) ≡ cond b [] (names.times n fields)
lists_same true n wanted fields same = refl
lists_same false n wanted fields same = times_same n wanted fields same

part_same : (start : ℕ) (whole : List ℕ) (part : Part)
    → map forget (part_wanted start whole part) ≡ names.part_fields start whole part
unfolding forget
part_same start whole (parts.Fields rows) = rows_same rows.now
part_same start whole (parts.Between rows from to) = rows_same (slice_range rows.now from to)
part_same start whole (parts.Group name rows) = rows_same rows.now
part_same start whole (parts.Entries name count rows) = times_same (count_of count whole) (rows_wanted rows.now) _
    (rows_same rows.now)
part_same start whole (parts.Numbers name w count) =
    times_same (count_of count whole) (sized name.now looks.number w (w * 1) ∷ []) _
    (ap (λ k. names.sized name.now k ∷ []) (let e : w * 1 ≡ w = omega arith in e))
part_same start whole (parts.Matrix name w rows columns) =
    lists_same (number_at columns whole == 0) (number_at rows whole) (sized name.now looks.number w (w * number_at columns whole)
    ∷ []) _ refl
part_same start whole (parts.Bytes name count) = refl
part_same start whole (parts.Until name end) = refl
part_same start whole (parts.Chosen by choices) = choice_same (find_choice (number_at by whole) choices.now)
part_same start whole (parts.BySize from to choices) = optional_same (find_choice (size_between from to whole) choices.now)

parts_same : (start : ℕ) (whole : List ℕ) (parts : List Part)
    → map forget (flat_map (part_wanted start whole) parts) ≡ flat_map (names.part_fields start whole) parts
parts_same start whole [] = refl
parts_same start whole (part ∷ more) =
    map-append forget (part_wanted start whole part) (flat_map (part_wanted start whole) more)
    ∙ ap (λ l. l ++ map forget (flat_map (part_wanted start whole) more)) (part_same start whole part)
    ∙ ap (λ l. names.part_fields start whole part ++ l) (parts_same start whole more)

-- ---- what is found

-- the fields that are found after others
abbrev Same : List Wanted → ℕ → List ℕ → List Field → Type 0
Same wanted at bytes old =
    map plain (after_all wanted (from at bytes old)).fields ≡ map plain old ++ names.fields_of at (map forget wanted) bytes

none_found : (wanted : List Wanted) (at : ℕ) (bytes : List ℕ) (old : List Field) → length bytes ≡ 0
    → map plain (after_all wanted (from at bytes old)).fields ≡ map plain old ++ []
none_found wanted at bytes old none =
    ap (λ f. map plain f.fields) (all_none wanted at bytes old none) ∙ sym (append-nil (map plain old))

-- a field, and those after it
field_same : (none short : Bool) (wanted : List Wanted) (name : List ℕ) (look : Look) (width size at : ℕ) (bytes : List ℕ)
    (old : List Field)
    → (none ≡ true → length bytes ≡ 0)
    → ((k : ℕ) (rest : List ℕ) (fields : List Field) → Same wanted k rest fields)
    → let one : Field = record { offset = at; name = name; look = look; width = width; bytes = take size bytes } in
    map plain (after_all wanted (cond none (from at bytes old) (cond short (ended (from at bytes old))
    (from (at + size) (drop size bytes) (old ++ one ∷ []))))).fields
    ≡ map plain old ++ cond none []
    (cond short [] (plain one ∷ names.fields_of (at + size) (map forget wanted) (drop size bytes)))
field_same true short wanted name look width size at bytes old few others = none_found wanted at bytes old (few refl)
field_same false true wanted name look width size at bytes old few others = none_found wanted (at + length bytes) [] old refl
field_same false false wanted name look width size at bytes old few others =
    let one : Field = record { offset = at; name = name; look = look; width = width; bytes = take size bytes } in
    others (at + size) (drop size bytes) (old ++ one ∷ [])
    ∙ ap (λ l. l ++ names.fields_of (at + size) (map forget wanted) (drop size bytes)) (map-append plain old (one ∷ []))
    ∙ append_assoc (map plain old) (plain one ∷ []) (names.fields_of (at + size) (map forget wanted) (drop size bytes))

until_same : (before : Bool) (wanted : List Wanted) (at : ℕ) (bytes : List ℕ) (old : List Field) (found : Found)
    (fields : List names.Named)
    → Same wanted at bytes old → map plain (after_all wanted found).fields ≡ map plain old ++ fields
    → map plain (after_all wanted (cond before (from at bytes old) found)).fields
    ≡ map plain old ++ cond before (names.fields_of at (map forget wanted) bytes) fields
until_same true wanted at bytes old found fields one two = one
until_same false wanted at bytes old found fields one two = two

all_same : (wanted : List Wanted) (at : ℕ) (bytes : List ℕ) (old : List Field) → Same wanted at bytes old
unfolding forget
all_same [] at bytes old = sym (append-nil (map plain old))
all_same (sized name look width size ∷ wanted) at bytes old =
    field_same (length bytes == 0) (nat_lt (length bytes) size) wanted name look width size at bytes old
    (λ is. eqb-true (length bytes) 0 is) (λ k rest fields. all_same wanted k rest fields)
all_same (until name end ∷ wanted) at bytes old =
    until_same (nat_le end at) wanted at bytes old (after_field name looks.text 1 (end - at) (from at bytes old)) _
    (all_same wanted at bytes old)
    (field_same (length bytes == 0) (nat_lt (length bytes) (end - at)) wanted name looks.text 1 (end - at) at bytes old
    (λ is. eqb-true (length bytes) 0 is) (λ k rest fields. all_same wanted k rest fields))
all_same (unnamed ∷ wanted) at bytes old = none_found wanted (at + length bytes) [] old refl

parts_alike : (parts : List Part) (at : ℕ) (piece : List ℕ)
    → map plain (parts_fields parts at piece) ≡ names.parts_fields parts at piece
parts_alike parts at piece =
    all_same (flat_map (part_wanted at piece) parts) at piece []
    ∙ ap (λ l. names.fields_of at l piece) (parts_same at piece parts)

-- ---- structures

-- two functions find the same fields of any bytes
abbrev Alike : OfBytes Field → OfBytes names.Named → Type 0
Alike one other = (at : ℕ) (bytes : List ℕ) → map plain (one at bytes) ≡ other at bytes

joined_alike : (a b : List Field) (x y : List names.Named) → map plain a ≡ x → map plain b ≡ y → map plain (a ++ b) ≡ x ++ y
joined_alike a b x y first second = map-append plain a b ∙ ap (λ l. l ++ map plain b) first ∙ ap (λ l. x ++ l) second

module _ (size : SizeOf) (one : OfBytes Field) (other : OfBytes names.Named) (alike : Alike one other) where
  piece_alike : (front : Option ℕ) (others : OfBytes Field) (more : OfBytes names.Named) → Alike others more
      → Alike (λ at bytes. piece_and front one others no_fields at bytes) (λ at bytes. piece_and front other more names.no_fields at bytes)
  piece_alike (Some k) others more same at bytes =
      joined_alike (one at (take k bytes)) (others (at + k) (drop k bytes)) _ _ (alike at (take k bytes)) (same (at + k) (drop k bytes))
  piece_alike None others more same at bytes = refl

  pieces_alike : (n : ℕ) (after : OfBytes Field) (left : OfBytes names.Named) → Alike after left
      → Alike (λ at bytes. pieces_then n size one no_fields after at bytes) (λ at bytes. pieces_then n size other names.no_fields left at bytes)
  pieces_alike zero after left end at bytes = end at bytes
  pieces_alike (suc n) after left end at bytes =
      piece_alike (size bytes) (λ k rest. pieces_then n size one no_fields after k rest) (λ k rest. pieces_then n size other names.no_fields left k rest)
      (pieces_alike n after left end) at bytes

front_alike : (parts : List Part) (start : ℕ) (others : OfBytes Field) (more : OfBytes names.Named) → Alike others more
    → Alike (λ at bytes. front_then (parts_fields parts) start others at bytes)
    (λ at bytes. front_then (names.parts_fields parts) start more at bytes)
front_alike parts start others more same at bytes =
    let front = take start bytes in
    joined_alike (parts_fields parts at front) (others (at + length front) (drop start bytes)) _ _
    (parts_alike parts at front) (same (at + length front) (drop start bytes))

-- ---- structures within another

inner_alike : (form : Option InnerForm) → Alike (fields_by_form form) (names.fields_by_form form)
inner_alike (Some form) at piece = parts_alike form.parts.now at piece
inner_alike None at piece = refl

lists_alike : (whole : List ℕ) (lists : List InnerList)
    → Alike (λ k rest. lists_fields whole lists k rest) (λ k rest. names.lists_fields whole lists k rest)
lists_alike whole [] at bytes = refl
lists_alike whole (list ∷ lists) at bytes =
    pieces_alike (inner_size list) (inner_fields list) (names.inner_fields list) (λ k piece. inner_alike (inner_form list piece) k piece)
    (count_of list.count whole) (λ k rest. lists_fields whole lists k rest) (λ k rest. names.lists_fields whole lists k rest)
    (lists_alike whole lists) at bytes

content_alike : (parts : List Part) (inner : Inner) → Alike (content_fields parts inner) (names.content_fields parts inner)
content_alike parts Nothing at piece = parts_alike parts at piece
content_alike parts (Lists start lists) at piece =
    front_alike parts (start_in start piece) (λ k rest. lists_fields piece lists.now k rest) (λ k rest. names.lists_fields piece lists.now k rest)
    (lists_alike piece lists.now) at piece

-- ---- tables

module _ (sizes : Sizes) (one : Structure → List Field) (other : OfBytes names.Named)
    (alike : (k : ℕ) (l : List ℕ) → map plain (one (record { offset = k; bytes = l })) ≡ other k l) where
  walked_alike : (front : Option ℕ) (others : ℕ → List ℕ → List Structure) (more : OfBytes names.Named)
      → ((k : ℕ) (l : List ℕ) → map plain (flat_map one (others k l)) ≡ more k l)
      → (at : ℕ) (bytes : List ℕ) → map plain (flat_map one (structure_and front others at bytes)) ≡ piece_and front other more names.no_fields at bytes
  walked_alike (Some k) others more same at bytes =
      joined_alike (one (record { offset = at; bytes = take k bytes })) (flat_map one (others (at + k) (drop k bytes))) _ _
      (alike at (take k bytes)) (same (at + k) (drop k bytes))
  walked_alike None others more same at bytes = refl

  structures_alike : (n at : ℕ) (bytes : List ℕ)
      → map plain (flat_map one (structures_up_to n sizes at bytes)) ≡ pieces_then n (front_size sizes) other names.no_fields names.no_fields at bytes
  structures_alike zero at bytes = refl
  structures_alike (suc n) at bytes =
      walked_alike (front_size sizes bytes) (λ k rest. structures_up_to n sizes k rest)
      (λ k rest. pieces_then n (front_size sizes) other names.no_fields names.no_fields k rest) (λ k l. structures_alike n k l) at bytes

pub fields_are_shown : FieldsAreShown
fields_are_shown form None bytes = content_alike form.parts.now form.inner.now 0 bytes
fields_are_shown form (Some walk) bytes =
    let forms = all_forms form in
    front_alike form.parts.now (start_of walk bytes) (λ k rest. flat_map (structure_fields walk.kind forms) (structures_of walk.sizes k rest))
    (λ k rest. pieces_then (length rest) (front_size walk.sizes) (names.structure_fields walk.kind forms) names.no_fields names.no_fields k rest)
    (λ k rest. structures_alike walk.sizes (structure_fields walk.kind forms) (names.structure_fields walk.kind forms)
    (λ at l. let form_of = find_form (number_at walk.kind l) forms in content_alike (form_parts form_of) (form_inner form_of) at l)
    (length rest) k rest) 0 bytes
