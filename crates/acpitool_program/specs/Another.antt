-- Files that have tables as texts, and are none themselves.
use Rattle.std.specs.Prelude.{ℕ, ◌==◌, nat_le, ◌&&◌, ◌||◌, Bool, true, if◌then◌else◌, List, [], ◌∷◌, length}
use Rattle.std.specs.Prelude.{Option, Some, None, codes}
use Rattle.acpi_dump.specs.Dump.{is_dump}
use Rattle.acpi_text.specs.Label.{prints}
use Rattle.acpitool_program.specs.declared.another.Another.{Another}
use Rattle.acpitool_program.specs.declared.another.Another.TheVariants.{Dump, Text}

-- whether a byte is a character that prints, a tab or an end of a line
abbrev pub is_text_byte : ℕ → Bool
is_text_byte c = prints c || c == 9 || c == 10 || c == 13

abbrev pub are_text_bytes : List ℕ → Bool
are_text_bytes [] = true
are_text_bytes (c ∷ bytes) = is_text_byte c && are_text_bytes bytes

-- Whether there are as many bytes as a table has at least, and all are of a text. Those of a table of less than 0x09090909 bytes
-- aren't: the last byte of its length is below 9.
abbrev pub is_text : List ℕ → Bool
is_text bytes = nat_le 36 (length bytes) && are_text_bytes bytes

abbrev pub another_of : List ℕ → Option Another
another_of bytes = if is_dump bytes then Some Dump else (if is_text bytes then Some Text else None)

abbrev pub another_words : Another → List ℕ
another_words Dump = codes "a dump of tables, which unpack writes one by one"
another_words Text = codes "a text, not a table"
