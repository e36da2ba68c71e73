-- The report of a table.
use Rattle.std.specs.Prelude.{◌≡◌, ℕ, List, [], ◌∷◌, ◌++◌, length, map, take, codes, slice_index}
use Rattle.std.specs.Prelude.{nat_le, ◌==◌, ◌&&◌, if◌then◌else◌}
use Rattle.std.specs.Fmt.{decimal}
use Rattle.acpi_base.specs.Walk.{place_width, number_in, ArePiecesOf}
use Rattle.acpi_base.specs.declared.walk.Place.{Place}
use Rattle.acpi_read.specs.Pieces.{kind_of, offsets_of}

-- a printable byte, or a question mark
abbrev pub printable : ℕ → ℕ
printable b = if nat_le 32 b && nat_le b 126 then b else 63

-- the signature, the length and the revision in decimal, and the sum, which is 0 for a checked table
abbrev pub header_line : List ℕ → List ℕ
header_line table =
    map printable (take 4 table) ++ codes " length " ++ decimal (length table)
    ++ codes " revision " ++ decimal (slice_index table 8) ++ codes " sum 0" ++ 10 ∷ []

-- the type of a piece in decimal, if the pieces have one
abbrev pub kind_text : Place → List ℕ → List ℕ
kind_text kind piece = if place_width kind == 0 then codes " entry" else codes " type " ++ decimal (number_in kind piece)

-- a piece's offset, its type and its size
abbrev pub piece_line : Place → ℕ → List ℕ → List ℕ
piece_line kind offset piece = decimal offset ++ kind_text kind piece ++ codes " size " ++ decimal (length piece) ++ 10 ∷ []

abbrev pub piece_lines : Place → List ℕ → List (List ℕ) → List ℕ
piece_lines kind (offset ∷ offsets) (piece ∷ pieces) = piece_line kind offset piece ++ piece_lines kind offsets pieces
piece_lines kind _ _ = []

-- The text is a line for the table's header, and a line for each of its pieces.
pub record ReportsTable (table text : List ℕ) : Type 0 where
  pub pieces : List (List ℕ)
  pub walk : ArePiecesOf table pieces
  pub is : text ≡ header_line table ++ piece_lines (kind_of table) (offsets_of table pieces) pieces
