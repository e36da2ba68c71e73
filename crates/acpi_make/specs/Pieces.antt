-- The structures that a text lists.
use Rattle.std.specs.Prelude.{◌≡◌, ℕ, ◌-◌, ◌≤◌, List, [], ◌∷◌, length, take, drop}
use Rattle.acpi_base.specs.Walk.{end_of, IsPiece}
use Rattle.acpi_base.specs.declared.walk.Sizes.{Sizes}
use Rattle.acpi_base.specs.declared.walk.Sizes.TheVariants.{EachOf, ToldAt, ByType}
use Rattle.acpi_make.specs.Own.{next_start}
use Rattle.acpi_make.specs.declared.draft.Mark.{Mark}
use Rattle.acpi_make.specs.declared.draft.Mark.TheVariants.{Structure, Line, Reference}

-- the bytes of each structure: from its heading to the next, or to the table's end
abbrev pub pieces_of : List Mark → List ℕ → List (List ℕ)
pieces_of [] bytes = []
pieces_of (Structure at from to ∷ marks) bytes =
    take (next_start marks (length bytes) - at) (drop at bytes) ∷ pieces_of marks bytes
pieces_of (Line at from to ∷ marks) bytes = pieces_of marks bytes
pieces_of (Reference at w from to ∷ marks) bytes = pieces_of marks bytes

-- The text has as many bytes of a structure as a structure of this walk has: all that structures of one size have, those that its
-- type says, or at least its length field.
abbrev pub HasBytesOf : Sizes → List ℕ → Type 0
HasBytesOf (EachOf size) piece = length piece ≡ size
HasBytesOf (ToldAt place) piece = end_of place ≤ length piece
HasBytesOf (ByType kind types) piece = IsPiece (ByType kind types) piece

abbrev pub HaveBytesOf : Sizes → List (List ℕ) → Type 0
HaveBytesOf sizes [] = Unit {0}
HaveBytesOf sizes (piece ∷ pieces) = HasBytesOf sizes piece × HaveBytesOf sizes pieces
