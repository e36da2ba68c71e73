-- The rows of a form, and the fields of what is written.
use Rattle.std.specs.Prelude.{ℕ, List, [], ◌∷◌, ◌++◌, Option, Some, None, codes, if◌then◌else◌}
use Prim.Native.String.{String}
use Rattle.std.specs.List.{flat_map, slice_range}
use Rattle.std.specs.Str.{bytes_eq}
use Rattle.acpi_base.specs.Fields.{NamedField, AreRowsOf, fields_joined}
use Rattle.acpi_base.specs.Header.{header_fields}
use Rattle.acpi_base.specs.Walk.{number_in}
use Rattle.acpi_base.specs.declared.oem.Oem.{Oem}
use Rattle.acpi_base.specs.declared.row.Row.{Row}
use Rattle.acpi_base.specs.declared.walk.Walk.{Walk}
use Rattle.acpi_text.specs.Form.{find_choice}
use Rattle.acpi_text.specs.Structure.{all_forms, find_form, form_parts, form_inner}
use Rattle.acpi_text.specs.declared.form.Choice.{Choice}
use Rattle.acpi_text.specs.declared.form.Inner.{Inner}
use Rattle.acpi_text.specs.declared.form.Inner.TheVariants.{Nothing, Lists}
use Rattle.acpi_text.specs.declared.form.Part.{Part}
use Rattle.acpi_text.specs.declared.form.Part.TheVariants.{Fields, Between, Group, Entries, Numbers, Matrix, Bytes, Until, Chosen}
use Rattle.acpi_text.specs.declared.form.Part.TheVariants.{BySize}
use Rattle.acpi_text.specs.declared.form.TableForm.{TableForm}

-- ---- the rows of a form

abbrev pub choice_rows : Option Choice → List Row
choice_rows (Some choice) = choice.rows.now
choice_rows None = []

-- The rows of a part, where the field or the size that chooses has this number. Lists, matrices and bytes of any number have
-- none.
abbrev pub part_rows : ℕ → Part → List Row
part_rows chosen (Fields rows) = rows.now
part_rows chosen (Between rows from to) = slice_range rows.now from to
part_rows chosen (Group name rows) = rows.now
part_rows chosen (Chosen by choices) = choice_rows (find_choice chosen choices.now)
part_rows chosen (BySize from to choices) = choice_rows (find_choice chosen choices.now)
part_rows chosen (Entries name count rows) = []
part_rows chosen (Numbers name w count) = []
part_rows chosen (Matrix name w rows columns) = []
part_rows chosen (Bytes name count) = []
part_rows chosen (Until name end) = []

abbrev pub rows_of : ℕ → List Part → List Row
rows_of chosen parts = flat_map (part_rows chosen) parts

-- the rows of the entries with a name
abbrev pub entry_rows : List ℕ → List Part → List Row
entry_rows wanted [] = []
entry_rows wanted (Entries name count rows ∷ parts) = if bytes_eq name.now wanted then rows.now else entry_rows wanted parts
entry_rows wanted (part ∷ parts) = entry_rows wanted parts

-- the parts of structures within a structure
abbrev pub inner_parts : Inner → List Part
inner_parts Nothing = []
inner_parts (Lists start lists) = flat_map (λ list. flat_map (λ form. form.parts.now) list.forms.now) lists.now

-- ---- the fields of what is written

-- any table with these fields after the standard header (ACPI 6.5, 5.2.6), where the field that chooses has this number
abbrev pub TableHasAt : ℕ → {T : Type 0} → (T → List NamedField) → TableForm → Type 0
TableHasAt chosen {T} fields form =
    (signature : List ℕ) (size revision : ℕ) (oem : Oem) (table : T)
    → AreRowsOf (rows_of chosen form.parts.now) (header_fields signature size revision oem ++ fields table)

abbrev pub TableHas : {T : Type 0} → (T → List NamedField) → TableForm → Type 0
TableHas fields form = TableHasAt 0 fields form

-- the number at the place of the type in a structure that begins with these fields
abbrev pub type_in : Walk → List NamedField → ℕ
type_in walk fields = number_in walk.kind (fields_joined fields)

-- any structure: the form of its type has its fields, where the field that chooses has this number
abbrev pub StructureHasAt : ℕ → Walk → {T : Type 0} → (T → List NamedField) → TableForm → Type 0
StructureHasAt chosen walk {T} fields form =
    (structure : T)
    → AreRowsOf (rows_of chosen (form_parts (find_form (type_in walk (fields structure)) (all_forms form)))) (fields structure)

abbrev pub StructureHas : Walk → {T : Type 0} → (T → List NamedField) → TableForm → Type 0
StructureHas walk fields form = StructureHasAt 0 walk fields form

-- any entry of a name, in structures of a type
abbrev pub EntryHas : ℕ → String → {T : Type 0} → (T → List NamedField) → TableForm → Type 0
EntryHas kind name {T} fields form =
    (entry : T) → AreRowsOf (entry_rows (codes name) (form_parts (find_form kind (all_forms form)))) (fields entry)

-- any structure within structures of a type, where the field that chooses has this number
abbrev pub InnerHasAt : ℕ → ℕ → {T : Type 0} → (T → List NamedField) → TableForm → Type 0
InnerHasAt chosen kind {T} fields form =
    (structure : T)
    → AreRowsOf (rows_of chosen (inner_parts (form_inner (find_form kind (all_forms form))))) (fields structure)
