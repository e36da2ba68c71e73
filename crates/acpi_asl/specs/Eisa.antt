-- EISA ids (ACPI 6.5, 19.3.4 and 19.6.37).
use Rattle.std.specs.Prelude.{ℕ, ◌^◌, nat_lt, ◌==◌, ◌&&◌, Bool, List, ◌++◌, codes}
use Rattle.std.specs.Int.{w32, swap_bytes}
use Rattle.acpi_asl.specs.Number.{digits_of}
use Rattle.acpi_terms_text.specs.Eisa.{is_id, letters}

-- a number in this many bytes that is an id, with its bytes in the opposite order
abbrev pub is_eisa : ℕ → ℕ → Bool
is_eisa w value = w == 4 && nat_lt value (2 ^ 32) && is_id (swap_bytes w32 value)

-- three letters, and the digits of two bytes
unfoldable pub id_text : ℕ → List ℕ
id_text n = letters n ++ digits_of 2 n

abbrev pub eisa_text : ℕ → List ℕ
eisa_text value = codes "EisaId (\"" ++ id_text (swap_bytes w32 value) ++ codes "\")"

-- an id as a string of JSON
unfoldable pub json_eisa : ℕ → List ℕ
json_eisa value = codes "\"" ++ id_text (swap_bytes w32 value) ++ codes "\""
