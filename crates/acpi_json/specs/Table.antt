-- A table as an object.
use Rattle.std.specs.Prelude.{ℕ, ◌==◌, Bool, true, false, if◌then◌else◌, List, [], ◌∷◌, ◌++◌, length, take, drop, codes}
use Rattle.std.specs.Prelude.{Option, Some, None}
use Rattle.std.specs.Fmt.{decimal}
use Rattle.acpi_base.specs.Walk.{place_width}
use Rattle.acpi_base.specs.declared.walk.Place.{Place}
use Rattle.acpi_base.specs.declared.walk.Walk.{Walk}
use Rattle.acpi_json.specs.Field.{fields_list}
use Rattle.acpi_json.specs.Text.{separator, string, text_string, digits_string}
use Rattle.acpi_rules.specs.Field.{Field, Structure, structures_of, parts_fields, content_fields, structure_fields}
use Rattle.acpi_text.specs.Form.{number_at}
use Rattle.acpi_text.specs.Structure.{all_forms, find_form}
use Rattle.acpi_text.specs.Table.{start_of}
use Rattle.acpi_text.specs.declared.form.StructureForm.{StructureForm}
use Rattle.acpi_text.specs.declared.form.TableForm.{TableForm}

-- ---- structures

-- the type of a structure, if it has one
abbrev pub type_value : Place → List ℕ → List ℕ
type_value kind piece = if place_width kind == 0 then codes "null" else decimal (number_at kind piece)

-- the name of a form, if there is one
abbrev pub name_value : Option StructureForm → List ℕ
name_value (Some form) = string form.name.now
name_value None = codes "null"

-- its offset in the table, its type, its length, the name of its type, and its fields
abbrev pub structure : Place → List StructureForm → Structure → List ℕ
structure kind forms s =
    codes "{\"offset\":" ++ decimal s.offset
    ++ codes ",\"type\":" ++ type_value kind s.bytes
    ++ codes ",\"length\":" ++ decimal (length s.bytes)
    ++ codes ",\"name\":" ++ name_value (find_form (number_at kind s.bytes) forms)
    ++ codes ",\"fields\":" ++ fields_list (structure_fields kind forms s)
    ++ codes "}"

-- structures as the elements of a list
abbrev pub elements : Place → List StructureForm → Bool → List Structure → List ℕ
elements kind forms first [] = []
elements kind forms first (s ∷ structures) = separator first ++ (structure kind forms s ++ elements kind forms false structures)

-- the list of them
abbrev pub structures_list : Place → List StructureForm → List Structure → List ℕ
structures_list kind forms structures = codes "[" ++ elements kind forms true structures ++ codes "]"

-- ---- tables

-- the member with fields
abbrev pub fields_member : List Field → List ℕ
fields_member fields = codes ",\"fields\":" ++ fields_list fields

-- the member with the structures that stand one after another from an offset on
abbrev pub structures_member : Walk → TableForm → ℕ → List ℕ → List ℕ
structures_member walk form start bytes =
    codes ",\"structures\":" ++ structures_list walk.kind (all_forms form) (structures_of walk.sizes start bytes)

-- The members with the fields before the structures, and with these. Without a walk all fields are the table's.
abbrev pub parts_members : TableForm → Option Walk → List ℕ → List ℕ
parts_members form None bytes =
    fields_member (content_fields form.parts.now form.inner.now 0 bytes) ++ codes ",\"structures\":[]"
parts_members form (Some walk) bytes =
    let front = take (start_of walk bytes) bytes in
    fields_member (parts_fields form.parts.now 0 front)
    ++ structures_member walk form (length front) (drop (start_of walk bytes) bytes)

-- The object of a table in a file of this name: the name, the signature, the length, the name of the form, the fields, the
-- structures, and all bytes.
abbrev pub table : List ℕ → TableForm → Option Walk → List ℕ → List ℕ
table file form walk bytes =
    codes "{\"file\":" ++ text_string file
    ++ codes ",\"signature\":" ++ string (take 4 bytes)
    ++ codes ",\"length\":" ++ decimal (length bytes)
    ++ codes ",\"name\":" ++ string form.name.now
    ++ parts_members form walk bytes
    ++ codes ",\"bytes\":" ++ digits_string bytes
    ++ codes "}"
