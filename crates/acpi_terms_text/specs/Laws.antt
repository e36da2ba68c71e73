-- What laws say.
use Rattle.std.specs.Prelude.{◌≡◌, ◌≢◌, ℕ, ◌^◌, ◌<◌, List, [], ◌∷◌, ◌++◌, Some, codes}
use Rattle.acpi_term.specs.declared.mode.Mode.TheVariants.{Term}
use Rattle.acpi_term.specs.Spelling.{SpellsIn}
use Rattle.acpi_term.specs.Language.{Grammar}
use Rattle.acpi_term.specs.Tree.{Terms}
use Rattle.acpi_aml.specs.Eisa.{eisa_value}
use Rattle.acpi_aml.specs.Uuid.{IsUuid, uuid_bytes}
use Rattle.acpi_read.specs.Lines.{lines}
use Rattle.acpi_terms_text.specs.Comment.{annotated}
use Rattle.acpi_terms_text.specs.Eisa.{eisa_text}
use Rattle.acpi_terms_text.specs.Uuid.{uuid_text}

-- no byte ends a line
abbrev pub IsOneLine : List ℕ → Type 0
IsOneLine [] = Unit {0}
IsOneLine (c ∷ text) = (c ≢ 10) × IsOneLine text

-- The lines of the second text are those of the first one, some of them with a comment after them.
pub data HasLines : List ℕ → List ℕ → Type 0 where
  same : {text : List ℕ} → HasLines text text
  plain : (line : List ℕ) {rest text : List ℕ} → IsOneLine line → HasLines rest text
      → HasLines (line ++ 10 ∷ rest) (line ++ 10 ∷ text)
  noted : (line note : List ℕ) {rest text : List ℕ} → IsOneLine line → IsOneLine note → HasLines rest text
      → HasLines (line ++ 10 ∷ rest) (line ++ (codes "  // " ++ (note ++ 10 ∷ text)))

-- In each language, the text of terms that bytes spell has the lines of their report.
abbrev pub LinesAreKept : Type 0
LinesAreKept = (g : Grammar) (bytes : List ℕ) (ts : Terms) → SpellsIn g Term bytes ts
    → HasLines (lines 0 ts) (annotated ts)

-- Where a number is shown as an EISA id, this text is read as the number.
abbrev pub EisaTextsAreRead : Type 0
EisaTextsAreRead = (value : ℕ) → value < 2 ^ 32 → eisa_text value ≢ [] → eisa_value (eisa_text value) ≡ Some value

-- The text of 16 bytes as a UUID is read as these bytes.
abbrev pub UuidTextsAreRead : Type 0
UuidTextsAreRead = (bytes : List ℕ) → IsUuid bytes → uuid_bytes (uuid_text bytes) ≡ Some bytes
