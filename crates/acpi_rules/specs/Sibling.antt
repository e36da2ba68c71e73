-- The rules on two parts of one structure: `unique`.
use Rattle.std.specs.Prelude.{ℕ, nat_le, ◌&&◌, Bool, if◌then◌else◌, List, [], ◌∷◌, ◌++◌, Option, Some, None}
use Rattle.std.specs.Str.{bytes_eq}
use Rattle.acpi_rules.specs.Finding.{Finding}
use Rattle.acpi_rules.specs.Item.{Item}
use Rattle.acpi_rules.specs.Related.{unique_findings}

-- where the structure begins that has the byte at an offset: at the last of these offsets that isn't after it
abbrev pub own_start : ℕ → List ℕ → ℕ → ℕ
own_start own [] at = own
own_start own (start ∷ starts) at = own_start (if nat_le start at then start else own) starts at

-- whether a part has the same bytes in the field as one before it that doesn't stand before the structure
abbrev pub is_same : ℕ → Item → Item → Bool
is_same own one before = bytes_eq one.field.bytes before.field.bytes && nat_le own before.field.offset

-- the offset of the field of the first part that is the same, of those before one
abbrev pub first_same : ℕ → Item → List Item → Option ℕ
first_same own one [] = None
first_same own one (item ∷ items) = if is_same own one item then Some item.field.offset else first_same own one items

-- A part is the same as one at an offset.
abbrev pub same_findings : List ℕ → Item → Option ℕ → List Finding
same_findings section item None = []
same_findings section item (Some at) = unique_findings section at item.field

-- No part is the same as one before it in its structure: the parts before, and those that come. The structures begin at these
-- offsets.
abbrev pub sibling_findings : List ℕ → List ℕ → List Item → List Item → List Finding
sibling_findings section starts before [] = []
sibling_findings section starts before (item ∷ items) =
    same_findings section item (first_same (own_start 0 starts item.field.offset) item before)
    ++ sibling_findings section starts (before ++ item ∷ []) items
