-- What a text consists of.
use Rattle.std.specs.Prelude.{ℕ, List, [], ◌∷◌, map}
use Rattle.acpi_make.specs.declared.item.Cell.{Cell}
use Rattle.acpi_make.specs.declared.item.Cell.TheVariants.{Byte, Left}
use Rattle.acpi_make.specs.declared.item.Item.{Item}
use Rattle.acpi_make.specs.declared.item.Item.TheVariants as items

-- bytes that are known
abbrev pub known_cells : List ℕ → List Cell
known_cells bytes = map Byte bytes

-- bytes as parts of a text
abbrev pub byte_items : List ℕ → List Item
byte_items bytes = map (λ b. items.Cell (Byte b)) bytes

-- the bytes of a text, where each value by name is one that isn't known
abbrev pub cells_of : List Item → List Cell
cells_of [] = []
cells_of (items.Cell cell ∷ parts) = cell ∷ cells_of parts
cells_of (items.Heading from to ∷ parts) = cells_of parts
cells_of (items.Name from to ∷ parts) = cells_of parts
cells_of (items.Value from to ∷ parts) = Left from ∷ cells_of parts
