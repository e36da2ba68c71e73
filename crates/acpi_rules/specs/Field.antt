-- The fields of a table, and what the form of the table says of the value of each.
use Rattle.std.specs.Prelude.{◌≡◌, ℕ, zero, suc, ◌+◌, ◌-◌, ◌*◌, ◌≤◌, ◌==◌, nat_lt, nat_le, if◌then◌else◌}
use Rattle.std.specs.Prelude.{List, [], ◌∷◌, ◌++◌, length, take, drop, Option, Some, None, codes}
use Rattle.std.specs.List.{flat_map, slice_range}
use Rattle.acpi_base.specs.Fields.{row_name, row_width}
use Rattle.acpi_base.specs.Gas.{address_spaces, access_sizes}
use Rattle.acpi_base.specs.Look.{Look, look_of, row_look}
use Rattle.acpi_base.specs.Look as looks
use Rattle.acpi_base.specs.declared.row.Row.{Row}
use Rattle.acpi_base.specs.declared.row.Row.TheVariants as rows
use Rattle.acpi_base.specs.declared.walk.Place.{Place}
use Rattle.acpi_base.specs.declared.walk.Sizes.{Sizes}
use Rattle.acpi_base.specs.declared.walk.Walk.{Walk}
use Rattle.acpi_text.specs.Form.{number_at, count_of, size_between, find_choice}
use Rattle.acpi_text.specs.Piece.{OfBytes, pieces_then, front_then}
use Rattle.acpi_text.specs.Size.{front_size, start_in, inner_form, inner_size}
use Rattle.acpi_text.specs.Structure.{all_forms, find_form, form_parts, form_inner}
use Rattle.acpi_text.specs.Table.{start_of}
use Rattle.acpi_text.specs.declared.form.Choice.{Choice}
use Rattle.acpi_text.specs.declared.form.Inner.{Inner}
use Rattle.acpi_text.specs.declared.form.Inner.TheVariants.{Nothing, Lists}
use Rattle.acpi_text.specs.declared.form.InnerForm.{InnerForm}
use Rattle.acpi_text.specs.declared.form.InnerList.{InnerList}
use Rattle.acpi_text.specs.declared.form.Part.{Part}
use Rattle.acpi_text.specs.declared.form.Part.TheVariants as parts
use Rattle.acpi_text.specs.declared.form.Part.TheVariants.{Fields, Between, Group, Entries, Numbers, Matrix, Until, Chosen}
use Rattle.acpi_text.specs.declared.form.Part.TheVariants.{BySize}
use Rattle.acpi_text.specs.declared.form.StructureForm.{StructureForm}
use Rattle.acpi_text.specs.declared.form.TableForm.{TableForm}
use Rattle.acpi_rules.specs.declared.field.Field.{Field as FieldData}

-- ---- a field

-- a field of a table: its offset, its name, what its value is, the width of each of its numbers, and its bytes
pub record Field : Type 0 where
  pub offset : ℕ
  pub name : List ℕ
  pub look : Look
  pub width : ℕ
  pub bytes : List ℕ

abbrev pub seen : FieldData → Field
seen f = record { offset = f.offset; name = f.name.now; look = look_of f.look; width = f.width; bytes = f.bytes.now }

-- ---- what a form says

-- What a form says of the next bytes:
-- - sized: they are a field of this name, whose value is this, of numbers of this width, and of this many bytes;
-- - until: they are a field of this name up to an offset, if any stand before it;
-- - unnamed: nothing is known of them, nor of those after them.
pub data Wanted : Type 0 where
  sized : List ℕ → Look → ℕ → ℕ → Wanted
  until : List ℕ → ℕ → Wanted
  unnamed : Wanted

-- the fields of a register's address (ACPI 6.5, 5.2.3.2)
abbrev pub register_wanted : List Wanted
register_wanted =
    sized (codes "Address Space ID") (looks.one_of address_spaces) 1 1
    ∷ sized (codes "Register Bit Width") looks.number 1 1
    ∷ sized (codes "Register Bit Offset") looks.number 1 1
    ∷ sized (codes "Access Size") (looks.one_of access_sizes) 1 1
    ∷ sized (codes "Address") looks.hex 8 8
    ∷ []

-- the field of a row
abbrev pub plain_wanted : Row → List Wanted
plain_wanted row = sized (row_name row) (row_look row) (row_width row) (row_width row) ∷ []

-- the fields of a row: a register has those of its address
abbrev pub row_wanted : Row → List Wanted
row_wanted (rows.Register name) = register_wanted
row_wanted row = plain_wanted row

abbrev pub rows_wanted : List Row → List Wanted
rows_wanted rows = flat_map row_wanted rows

abbrev pub times : ℕ → List Wanted → List Wanted
times zero wanted = []
times (suc n) wanted = wanted ++ times n wanted

abbrev pub choice_wanted : Option Choice → List Wanted
choice_wanted (Some choice) = rows_wanted choice.rows.now
choice_wanted None = unnamed ∷ []

abbrev pub optional_wanted : Option Choice → List Wanted
optional_wanted (Some choice) = rows_wanted choice.rows.now
optional_wanted None = []

-- the fields of a part of a structure that begins at an offset
abbrev pub part_wanted : ℕ → List ℕ → Part → List Wanted
part_wanted start whole (Fields rows) = rows_wanted rows.now
part_wanted start whole (Between rows from to) = rows_wanted (slice_range rows.now from to)
part_wanted start whole (Group name rows) = rows_wanted rows.now
part_wanted start whole (Entries name count rows) = times (count_of count whole) (rows_wanted rows.now)
part_wanted start whole (Numbers name w count) = times (count_of count whole) (sized name.now looks.number w (w * 1) ∷ [])
part_wanted start whole (Matrix name w rows columns) =
    if number_at columns whole == 0 then []
    else times (number_at rows whole) (sized name.now looks.number w (w * number_at columns whole) ∷ [])
part_wanted start whole (parts.Bytes name count) = sized name.now looks.text 1 (number_at count whole) ∷ []
part_wanted start whole (Until name end) = until name.now (start + number_at end whole) ∷ []
part_wanted start whole (Chosen by choices) = choice_wanted (find_choice (number_at by whole) choices.now)
part_wanted start whole (BySize from to choices) = optional_wanted (find_choice (size_between from to whole) choices.now)

-- ---- the fields of bytes

-- what was found of bytes: the offset of the next byte, the bytes that are left, and the fields before them
pub record Found : Type 0 where
  pub at : ℕ
  pub rest : List ℕ
  pub fields : List Field

-- no field begins in the bytes that are left
abbrev pub ended : Found → Found
ended found = record { at = found.at + length found.rest; rest = []; fields = found.fields }

-- The next bytes are a field, if there are as many as it has. If there are fewer, none of them is in a field.
abbrev pub after_field : List ℕ → Look → ℕ → ℕ → Found → Found
after_field name look width size found =
    if length found.rest == 0 then found
    else (if nat_lt (length found.rest) size then ended found
    else record {
      at = found.at + size;
      rest = drop size found.rest;
      fields = found.fields
          ++ record { offset = found.at; name = name; look = look; width = width; bytes = take size found.rest } ∷ [];
    })

abbrev pub after : Wanted → Found → Found
after (sized name look width size) found = after_field name look width size found
after (until name end) found = if nat_le end found.at then found else after_field name looks.text 1 (end - found.at) found
after unnamed found = ended found

abbrev pub after_all : List Wanted → Found → Found
after_all [] found = found
after_all (wanted ∷ more) found = after_all more (after wanted found)

-- what is found of bytes from an offset on, after these fields
abbrev pub from : ℕ → List ℕ → List Field → Found
from at bytes fields = record { at = at; rest = bytes; fields = fields }

-- the fields of a structure by its parts
abbrev pub parts_fields : List Part → ℕ → List ℕ → List Field
parts_fields parts at piece = (after_all (flat_map (part_wanted at piece) parts) (from at piece [])).fields

-- ---- structures, one after another

-- a structure of a table: its offset and its bytes
pub record Structure : Type 0 where
  pub offset : ℕ
  pub bytes : List ℕ

-- the structure of this size, and those after it
abbrev pub structure_and : Option ℕ → (ℕ → List ℕ → List Structure) → ℕ → List ℕ → List Structure
structure_and (Some size) others at bytes = record { offset = at; bytes = take size bytes } ∷ others (at + size) (drop size bytes)
structure_and None others at bytes = []

-- n structures at most
abbrev pub structures_up_to : ℕ → Sizes → ℕ → List ℕ → List Structure
structures_up_to zero sizes at bytes = []
structures_up_to (suc n) sizes at bytes =
    structure_and (front_size sizes bytes) (λ k rest. structures_up_to n sizes k rest) at bytes

-- As many structures as stand one after another. Each has a byte at least.
abbrev pub structures_of : Sizes → ℕ → List ℕ → List Structure
structures_of sizes at bytes = structures_up_to (length bytes) sizes at bytes

-- ---- a table

-- no fields
abbrev pub no_fields : OfBytes Field
no_fields at bytes = []

-- the fields of a structure within another, by its form
abbrev pub fields_by_form : Option InnerForm → OfBytes Field
fields_by_form (Some form) at piece = parts_fields form.parts.now at piece
fields_by_form None at piece = []

abbrev pub inner_fields : InnerList → OfBytes Field
inner_fields list at piece = fields_by_form (inner_form list piece) at piece

-- those of lists of structures within a whole
abbrev pub lists_fields : List ℕ → List InnerList → OfBytes Field
lists_fields whole [] at bytes = []
lists_fields whole (list ∷ lists) at bytes =
    pieces_then (count_of list.count whole) (inner_size list) (inner_fields list) no_fields
    (λ k rest. lists_fields whole lists k rest) at bytes

-- the fields of a structure by its parts, and of the structures within it
abbrev pub content_fields : List Part → Inner → OfBytes Field
content_fields parts Nothing at piece = parts_fields parts at piece
content_fields parts (Lists start lists) at piece =
    front_then (parts_fields parts) (start_in start piece) (λ k rest. lists_fields piece lists.now k rest) at piece

-- the fields of a structure by the form that has its type
abbrev pub structure_fields : Place → List StructureForm → Structure → List Field
structure_fields kind forms s =
    let form = find_form (number_at kind s.bytes) forms in
    content_fields (form_parts form) (form_inner form) s.offset s.bytes

-- the fields of a table
abbrev pub table_fields : TableForm → Option Walk → List ℕ → List Field
table_fields form None bytes = content_fields form.parts.now form.inner.now 0 bytes
table_fields form (Some walk) bytes =
    front_then (parts_fields form.parts.now) (start_of walk bytes)
    (λ k rest. flat_map (structure_fields walk.kind (all_forms form)) (structures_of walk.sizes k rest)) 0 bytes

-- ---- what calls find

-- These fields were added to others, and the first n of the bytes were read.
pub record Reached (wanted : List Wanted) (at : ℕ) (bytes : List ℕ) (old new : List Field) (n : ℕ) : Type 0 where
  pub within : n ≤ length bytes
  pub found : after_all wanted (from at bytes old) ≡ from (at + n) (drop n bytes) new
