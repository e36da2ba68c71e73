-- The notes on the numbers of a table that its text states otherwise.
use Rattle.std.specs.Prelude.{◌≡◌, ℕ, ◌==◌, if◌then◌else◌, List, [], ◌∷◌, ◌++◌, codes}
use Rattle.std.specs.Fmt.{decimal}
use Rattle.acpi_make.specs.declared.extent.Own.{Own}
use Rattle.acpi_rules.specs.Field.{Field}
use Rattle.acpi_text.specs.Label.{label}
use Rattle.acpitool_program.specs.Fields.{AreFields}

-- the name of the field that begins at an offset, and a colon, or nothing if no field does
abbrev pub name_at : ℕ → List Field → List ℕ
name_at offset [] = []
name_at offset (f ∷ fields) = if f.offset == offset then label f.name ++ codes ": " else name_at offset fields

-- a number that the text states otherwise: its offset, the name of its field, and the number that would be right
abbrev pub note : List ℕ → List Field → Own → List ℕ
note name fields one =
    name
    ++ (codes ": note at "
    ++ (decimal one.offset
    ++ (codes ": "
    ++ (name_at one.offset fields
    ++ (decimal one.number
    ++ codes " would be right\n")))))

abbrev pub notes : List ℕ → List Field → List Own → List ℕ
notes name fields [] = []
notes name fields (one ∷ owns) = note name fields one ++ notes name fields owns

-- the notes on a table of these bytes
abbrev pub AreNotes : List ℕ → List ℕ → List Own → List ℕ → Type 0
AreNotes name bytes [] text = text ≡ []
AreNotes name bytes (one ∷ owns) text = (fields : List Field) × AreFields bytes fields × (text ≡ notes name fields (one ∷ owns))
