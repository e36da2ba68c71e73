-- The names that a text shows.
use Rattle.std.specs.Prelude.{◌≡◌, ℕ, zero, suc, ◌+◌, ◌-◌, ◌*◌, ◌^◌, ◌<◌, ◌==◌, nat_lt, nat_le, if◌then◌else◌, false}
use Rattle.std.specs.Prelude.{List, [], ◌∷◌, ◌++◌, length, take, drop, replicate, Option, Some, None, codes}
use Rattle.std.specs.Fmt.{decimal}
use Rattle.std.specs.List.{flat_map, slice_range}
use Rattle.acpi_base.specs.Bytes.{AreBytes}
use Rattle.acpi_base.specs.Fields.{row_name, row_width}
use Rattle.acpi_base.specs.declared.row.Row.{Row}
use Rattle.acpi_base.specs.declared.row.Row.TheVariants as rows
use Rattle.acpi_base.specs.declared.walk.Place.{Place}
use Rattle.acpi_base.specs.declared.walk.Walk.{Walk}
use Rattle.acpi_text.specs.Form.{number_at, count_of, size_between, find_choice}
use Rattle.acpi_text.specs.Label.{label}
use Rattle.acpi_text.specs.Line.{line}
use Rattle.acpi_base.specs.Look.{Look}
use Rattle.acpi_text.specs.Reading.{in_number, read, bytes_of}
use Rattle.acpi_text.specs.Piece.{OfBytes, pieces_then, front_then}
use Rattle.acpi_text.specs.Size.{front_size, start_in, inner_form, inner_size}
use Rattle.acpi_text.specs.Structure.{all_forms, find_form, form_parts, form_inner}
use Rattle.acpi_text.specs.Table.{start_of, table_text}
use Rattle.acpi_text.specs.declared.form.Choice.{Choice}
use Rattle.acpi_text.specs.declared.form.Inner.{Inner}
use Rattle.acpi_text.specs.declared.form.Inner.TheVariants.{Nothing, Lists}
use Rattle.acpi_text.specs.declared.form.InnerList.{InnerList}
use Rattle.acpi_text.specs.declared.form.InnerForm.{InnerForm}
use Rattle.acpi_text.specs.declared.form.Part.{Part}
use Rattle.acpi_text.specs.declared.form.Part.TheVariants as parts
use Rattle.acpi_text.specs.declared.form.Part.TheVariants.{Fields, Between, Group, Entries, Numbers, Matrix, Until, Chosen}
use Rattle.acpi_text.specs.declared.form.Part.TheVariants.{BySize}
use Rattle.acpi_text.specs.declared.form.StructureForm.{StructureForm}
use Rattle.acpi_text.specs.declared.form.TableForm.{TableForm}

-- ---- a line with a name

-- no byte ends a line
abbrev pub OneLine : List ℕ → Type 0
OneLine [] = Unit {0}
OneLine (c ∷ text) = ((c == 10) ≡ false) × OneLine text

-- whole lines: nothing, or a text whose last byte ends a line
abbrev pub WholeLines : List ℕ → Type 0
WholeLines [] = Unit {0}
WholeLines (c ∷ []) = c ≡ 10
WholeLines (c ∷ d ∷ text) = WholeLines (d ∷ text)

-- a field of a table: its offset, its name and its bytes
pub record Named : Type 0 where
  pub offset : ℕ
  pub name : List ℕ
  pub bytes : List ℕ

-- One line: two spaces or more, the field's offset in decimal, a space, the field's name, any spaces, a colon, and a text that a
-- reader of numbers reads as the field's bytes.
pub record IsLineOf (one : Named) (text : List ℕ) : Type 0 where
  pub indent : ℕ
  pub blank : ℕ
  pub said : List ℕ
  pub parts : text ≡ replicate (indent + 2) 32
      ++ (decimal one.offset ++ (32 ∷ (label one.name ++ (replicate blank 32 ++ (58 ∷ (said ++ 10 ∷ []))))))
  pub ends : OneLine said
  pub reads : (more : List ℕ) → read (in_number []) (said ++ (10 ∷ more)) ≡ one.bytes ++ bytes_of more

-- The text has a line for each of these fields, in this order. Each begins where a line begins. Other whole lines may stand
-- before, between and after them.
abbrev pub Names : List Named → List ℕ → Type 0
Names [] text = WholeLines text
Names (one ∷ others) text =
    (before : List ℕ) × (named : List ℕ) × (after : List ℕ)
    × (text ≡ before ++ (named ++ after)) × WholeLines before × IsLineOf one named × Names others after

-- ---- the fields of a form

-- What a form says of the next bytes: they are a field of this size, a field up to an offset, or not known.
pub data Wanted : Type 0 where
  sized : List ℕ → ℕ → Wanted
  until : List ℕ → ℕ → Wanted
  unnamed : Wanted

-- the fields of a row; a register has those of its address (ACPI 6.5, 5.2.3.2)
abbrev pub row_fields : Row → List Wanted
row_fields (rows.Register name) =
    sized (codes "Address Space ID") 1
    ∷ sized (codes "Register Bit Width") 1
    ∷ sized (codes "Register Bit Offset") 1
    ∷ sized (codes "Access Size") 1
    ∷ sized (codes "Address") 8
    ∷ []
row_fields row = sized (row_name row) (row_width row) ∷ []

abbrev pub rows_fields : List Row → List Wanted
rows_fields rows = flat_map row_fields rows

abbrev pub times : ℕ → List Wanted → List Wanted
times zero fields = []
times (suc n) fields = fields ++ times n fields

abbrev pub choice_fields : Option Choice → List Wanted
choice_fields (Some choice) = rows_fields choice.rows.now
choice_fields None = unnamed ∷ []

abbrev pub optional_fields : Option Choice → List Wanted
optional_fields (Some choice) = rows_fields choice.rows.now
optional_fields None = []

-- the fields of a part of a structure that begins at an offset
abbrev pub part_fields : ℕ → List ℕ → Part → List Wanted
part_fields start whole (Fields rows) = rows_fields rows.now
part_fields start whole (Between rows from to) = rows_fields (slice_range rows.now from to)
part_fields start whole (Group name rows) = rows_fields rows.now
part_fields start whole (Entries name count rows) = times (count_of count whole) (rows_fields rows.now)
part_fields start whole (Numbers name w count) = times (count_of count whole) (sized name.now w ∷ [])
part_fields start whole (Matrix name w rows columns) =
    if number_at columns whole == 0 then []
    else times (number_at rows whole) (sized name.now (w * number_at columns whole) ∷ [])
part_fields start whole (parts.Bytes name count) = sized name.now (number_at count whole) ∷ []
part_fields start whole (Until name end) = until name.now (start + number_at end whole) ∷ []
part_fields start whole (Chosen by choices) = choice_fields (find_choice (number_at by whole) choices.now)
part_fields start whole (BySize from to choices) = optional_fields (find_choice (size_between from to whole) choices.now)

-- ---- the fields of a table

-- A field, and those after it. There are none where fewer bytes are left than the field has.
abbrev pub field_and : (ℕ → List ℕ → List Named) → ℕ → List ℕ → ℕ → List ℕ → List Named
field_and others at name size bytes =
    if length bytes == 0 then []
    else (if nat_lt (length bytes) size then []
    else record { offset = at; name = name; bytes = take size bytes } ∷ others (at + size) (drop size bytes))

-- the fields of bytes from an offset on, as far as there are bytes
abbrev pub fields_of : ℕ → List Wanted → List ℕ → List Named
fields_of at [] bytes = []
fields_of at (sized name size ∷ wanted) bytes = field_and (λ k rest. fields_of k wanted rest) at name size bytes
fields_of at (until name end ∷ wanted) bytes =
    if nat_le end at then fields_of at wanted bytes else field_and (λ k rest. fields_of k wanted rest) at name (end - at) bytes
fields_of at (unnamed ∷ wanted) bytes = []

-- the fields of a structure by its parts
abbrev pub parts_fields : List Part → OfBytes Named
parts_fields parts at piece = fields_of at (flat_map (part_fields at piece) parts) piece

-- no fields
abbrev pub no_fields : OfBytes Named
no_fields at bytes = []

-- the fields of a structure within another, by its form
abbrev pub fields_by_form : Option InnerForm → OfBytes Named
fields_by_form (Some form) at piece = parts_fields form.parts.now at piece
fields_by_form None at piece = []

abbrev pub inner_fields : InnerList → OfBytes Named
inner_fields list at piece = fields_by_form (inner_form list piece) at piece

-- those of lists of structures within a whole
abbrev pub lists_fields : List ℕ → List InnerList → OfBytes Named
lists_fields whole [] at bytes = []
lists_fields whole (list ∷ lists) at bytes =
    pieces_then (count_of list.count whole) (inner_size list) (inner_fields list) no_fields
    (λ k rest. lists_fields whole lists k rest) at bytes

-- the fields of a structure by its parts, and of the structures within it
abbrev pub content_fields : List Part → Inner → OfBytes Named
content_fields parts Nothing at piece = parts_fields parts at piece
content_fields parts (Lists start lists) at piece =
    front_then (parts_fields parts) (start_in start piece) (λ k rest. lists_fields piece lists.now k rest) at piece

-- the fields of a structure by the form that has its type
abbrev pub structure_fields : Place → List StructureForm → ℕ → List ℕ → List Named
structure_fields kind forms at piece =
    let form = find_form (number_at kind piece) forms in
    content_fields (form_parts form) (form_inner form) at piece

-- the fields of a table
abbrev pub table_fields : TableForm → Option Walk → List ℕ → List Named
table_fields form None bytes = content_fields form.parts.now form.inner.now 0 bytes
table_fields form (Some walk) bytes =
    front_then (parts_fields form.parts.now) (start_of walk bytes)
    (λ k rest. pieces_then (length rest) (front_size walk.sizes) (structure_fields walk.kind (all_forms form))
    no_fields no_fields k rest) 0 bytes

-- ---- where fields stand

-- The bytes of a field are those of the table at the field's offset.
abbrev pub Stands : List ℕ → Named → Type 0
Stands table one = take (length one.bytes) (drop one.offset table) ≡ one.bytes

abbrev pub AllStand : List ℕ → List Named → Type 0
AllStand table [] = Unit {0}
AllStand table (one ∷ others) = Stands table one × AllStand table others

-- ---- laws

-- A field's line has the field's offset, its name and its bytes.
abbrev pub LinesHaveNames : Type 0
LinesHaveNames = (depth offset : ℕ) (name : List ℕ) (look : Look) (w n : ℕ) (bytes : List ℕ)
    → AreBytes bytes → length bytes ≡ w * n
    → IsLineOf (record { offset = offset; name = name; bytes = bytes }) (line depth offset name look w n bytes)

-- For any form, the text of a table has a line of each field of the form that the table has bytes for, in order.
abbrev pub TextsHaveNames : Type 0
TextsHaveNames = (form : TableForm) (walk : Option Walk) (bytes : List ℕ) → AreBytes bytes → length bytes < 2 ^ 64
    → Names (table_fields form walk bytes) (table_text form walk bytes)

-- The bytes of each of these fields are those of the table at the field's offset.
abbrev pub FieldsStand : Type 0
FieldsStand = (form : TableForm) (walk : Option Walk) (bytes : List ℕ) → AllStand bytes (table_fields form walk bytes)
