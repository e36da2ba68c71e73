-- Bytes of a definition block that can't be read, as a comment.
use Rattle.std.specs.Prelude.{ℕ, suc, ◌+◌, List, ◌++◌, codes, Option, Some, None}
use Rattle.std.specs.Fmt.{decimal}
use Rattle.acpi_term.specs.declared.read_error.ReadError.{ReadError}
use Rattle.acpi_term.specs.ReadError.{message_of, offset_of}
use Rattle.acpi_asl.specs.Place.{new_line}
use Rattle.acpi_asl.specs.Row.{bytes_text}

-- the beginning of the comment, with the offset of the fault in the table, which begins with a header of 36 bytes
abbrev pub lead_text : Option ℕ → List ℕ
lead_text (Some offset) = codes "/*= not read, at " ++ decimal (36 + offset) ++ codes ": "
lead_text None = codes "/*= not read, "

-- What is shown of bytes in place of the terms that they may be: why they can't be read, and the bytes, in rows.
abbrev pub unread_text : ReadError → List ℕ → ℕ → List ℕ
unread_text error bytes d =
    (lead_text (offset_of error) ++ message_of error) ++ bytes_text (suc d) 0 bytes ++ new_line d ++ codes "*/"
