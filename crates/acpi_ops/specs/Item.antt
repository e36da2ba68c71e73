-- How bytes split into resource items (ACPI 6.5, 6.4.2 and 6.4.3).
use Rattle.std.specs.Prelude.{◌≡◌, ℕ, ◌+◌, ◌*◌, ◌%◌, nat_lt, if◌then◌else◌, List, [], ◌∷◌, length, Option, Some, None}
use Rattle.std.specs.List.{concat}

-- the size of a large item: the length after its tag, and the tag and the length themselves
abbrev pub large_size : List ℕ → Option ℕ
large_size (low ∷ high ∷ more) = Some (3 + (low + 256 * high))
large_size _ = None

-- The size of the item at the front. The tag of a small item has bit 7 clear, and its bits 0 to 2 are the number of bytes after
-- it.
abbrev pub item_size : List ℕ → Option ℕ
item_size [] = None
item_size (tag ∷ more) = if nat_lt tag 128 then Some (1 + tag % 8) else large_size more

-- the bytes are one item
pub record IsItem (bytes : List ℕ) : Type 0 where
  pub size : item_size bytes ≡ Some (length bytes)

abbrev pub AreItems : List (List ℕ) → Type 0
AreItems [] = Unit {0}
AreItems (item ∷ items) = IsItem item × AreItems items

-- the bytes are these items, in order
abbrev pub SplitsInto : List ℕ → List (List ℕ) → Type 0
SplitsInto bytes items = AreItems items × (bytes ≡ concat items)
