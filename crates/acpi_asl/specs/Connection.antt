-- The connections of fields, and how fields are accessed (ACPI 6.5, 19.6.1 and 19.6.15).
use Rattle.std.specs.Prelude.{ℕ, ◌==◌, ◌&&◌, Bool, true, if◌then◌else◌, List, ◌++◌, length, codes}
use Rattle.acpi_asl.specs.Number.{hex, least_bytes, number_text}
use Rattle.acpi_asl.specs.Template.{found, is_found, found_text, listed_bytes}
use Rattle.acpi_asl.specs.declared.word.Keyword.TheVariants.{AccessType, AccessAttribute, ExtendedAttribute}
use Rattle.acpi_asl.specs.Word.{keyword_text}

-- ---- access

abbrev pub access_front : ℕ → List ℕ
access_front access = codes "AccessAs (" ++ keyword_text AccessType access ++ codes ", "

abbrev pub access_text : ℕ → ℕ → List ℕ
access_text access attribute = access_front access ++ keyword_text AccessAttribute attribute ++ codes ")"

abbrev pub extended_text : ℕ → ℕ → List ℕ
extended_text attribute size = keyword_text ExtendedAttribute attribute ++ codes " (" ++ hex 1 size ++ codes "))"

abbrev pub extended_access_text : ℕ → ℕ → ℕ → List ℕ
extended_access_text access attribute size = access_front access ++ extended_text attribute size

-- ---- connections

-- whether a buffer of this size, a number of v bytes, is what the macro of a descriptor makes
abbrev pub is_macro : ℕ → ℕ → List ℕ → Bool
is_macro size v bytes = size == length bytes && v == least_bytes (length bytes) && is_found (found bytes)

abbrev pub raw_text : ℕ → ℕ → List ℕ → List ℕ
raw_text size v bytes = (codes "Buffer (" ++ number_text size v ++ codes ") {") ++ listed_bytes true bytes ++ codes "}"

-- A connection's buffer: the macro of its descriptor, or its bytes if none makes it. A compiler takes a macro alone.
abbrev pub buffer_text : ℕ → ℕ → List ℕ → List ℕ
buffer_text size v bytes =
    if is_macro size v bytes then found_text (found bytes) (length bytes) bytes else raw_text size v bytes

abbrev pub connection_text : List ℕ → List ℕ
connection_text what = codes "Connection (" ++ what ++ codes ")"
