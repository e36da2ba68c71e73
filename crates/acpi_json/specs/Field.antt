-- Fields as objects.
use Rattle.std.specs.Prelude.{Bool, true, false, ℕ, List, [], ◌∷◌, ◌++◌, length, codes}
use Rattle.std.specs.Fmt.{decimal}
use Rattle.acpi_json.specs.Text.{separator, string}
use Rattle.acpi_json.specs.Value.{value, meaning}
use Rattle.acpi_rules.specs.Field.{Field}

-- the members with its offset in the table, its width in bytes, and its name
abbrev pub place : Field → List ℕ
place f =
    codes "\"offset\":" ++ decimal f.offset
    ++ codes ",\"width\":" ++ decimal (length f.bytes)
    ++ codes ",\"name\":" ++ string f.name

-- the members with its value, and what the value means
abbrev pub content : Field → List ℕ
content f = codes ",\"value\":" ++ value f.look f.width f.bytes ++ meaning f.look f.width f.bytes

-- its object
abbrev pub field : Field → List ℕ
field f = codes "{" ++ place f ++ content f ++ codes "}"

-- fields as the elements of a list
abbrev pub elements : Bool → List Field → List ℕ
elements first [] = []
elements first (f ∷ fields) = separator first ++ (field f ++ elements false fields)

-- the list of them
abbrev pub fields_list : List Field → List ℕ
fields_list fields = codes "[" ++ elements true fields ++ codes "]"
