-- What is in a descriptor: bits, numbers, offsets and texts.
use Rattle.std.specs.Prelude.{ℕ, zero, suc, ◌+◌, ◌-◌, ◌*◌, ◌/◌, ◌%◌, nat_lt, nat_le, ◌==◌, ◌&&◌, ◌||◌, not, Bool, true, false}
use Rattle.std.specs.Prelude.{if◌then◌else◌, List, [], ◌∷◌, ◌++◌, length, take, drop, slice_index_or}
use Rattle.acpi_asl.specs.declared.descriptor.Bits.{Bits}
use Rattle.acpi_asl.specs.declared.descriptor.Offset.{Offset}
use Rattle.acpi_asl.specs.declared.descriptor.Offset.TheVariants as offsets
use Rattle.acpi_asl.specs.declared.descriptor.Check.{Check}
use Rattle.acpi_asl.specs.declared.descriptor.Check.TheVariants as checks
use Rattle.acpi_asl.specs.Number.{upper_byte}

-- ---- bits

-- a byte without its lowest bits
abbrev pub shifted : ℕ → ℕ → ℕ
shifted b s =
    if s == 0 then b
    else (if s == 1 then b / 2
    else (if s == 2 then b / 4
    else (if s == 3 then b / 8
    else (if s == 4 then b / 16
    else (if s == 5 then b / 32
    else (if s == 6 then b / 64 else b / 128))))))

-- its lowest bits: 1 to 3, or else all
abbrev pub lowest : ℕ → ℕ → ℕ
lowest b k = if k == 1 then b % 2 else (if k == 2 then b % 4 else (if k == 3 then b % 8 else b))

-- the number that bits of an item are
abbrev pub value_of : List ℕ → Bits → ℕ
value_of item x = lowest (shifted (slice_index_or item x.offset 0) x.shift) x.size

-- the digits of the number of w bytes at an offset of an item, highest first
unfoldable pub digits_at : ℕ → ℕ → List ℕ → List ℕ
digits_at zero offset item = []
digits_at (suc w) offset item = upper_byte (slice_index_or item (offset + w) 0) ++ digits_at w offset item

-- whether the k bytes at an offset are zero
abbrev pub are_zero : List ℕ → ℕ → ℕ → Bool
are_zero item offset zero = true
are_zero item offset (suc k) = slice_index_or item (offset + k) 0 == 0 && are_zero item offset k

abbrev pub is_empty : List ℕ → Bool
is_empty [] = true
is_empty (b ∷ rest) = false

-- ---- offsets

-- the number of two bytes at an offset
abbrev pub word_at : List ℕ → ℕ → ℕ
word_at item offset = slice_index_or item offset 0 + 256 * slice_index_or item (offset + 1) 0

abbrev pub offset_of : List ℕ → Offset → ℕ
offset_of item (offsets.At offset) = offset
offset_of item (offsets.Stated offset) = word_at item offset
offset_of item offsets.Entries = 5 + 4 * slice_index_or item 4 0
offset_of item offsets.BusData = 12 + word_at item 10
offset_of item offsets.End = length item

-- the bytes from one offset to another
abbrev pub between : List ℕ → Offset → Offset → List ℕ
between item from to = take (offset_of item to - offset_of item from) (drop (offset_of item from) item)

-- ---- texts

-- ASCII characters, which compilers take in strings, and a zero at the end
abbrev pub ends_in_zero : List ℕ → Bool
ends_in_zero [] = false
ends_in_zero (b ∷ rest) = if b == 0 then is_empty rest else nat_lt b 128 && ends_in_zero rest

-- the number of characters up to the first zero
abbrev pub zero_at : List ℕ → ℕ
zero_at [] = 0
zero_at (b ∷ rest) = if b == 0 then 0 else 1 + zero_at rest

-- these characters
abbrev pub up_to_zero : List ℕ → List ℕ
up_to_zero bytes = take (zero_at bytes) bytes

-- the name of a resource source and its zero, which follow an index at an offset
abbrev pub source_at : List ℕ → Offset → List ℕ
source_at item at = drop (offset_of item at + 1) item

-- ---- checks

abbrev pub holds : List ℕ → Check → Bool
holds item (checks.Is x value) = value_of item x == value
holds item (checks.Nonzero x) = not (value_of item x == 0)
holds item (checks.Vendor offset) = word_at item offset + word_at item (offset + 2) == length item
holds item (checks.AtLeast offset n) = nat_le n (word_at item offset)
holds item (checks.Pairs from to) =
    nat_lt (offset_of item from) (offset_of item to) && (offset_of item to - offset_of item from) % 2 == 0
holds item (checks.Text from to) = ends_in_zero (between item from to)
holds item (checks.Source at) = offset_of item at == length item || ends_in_zero (source_at item at)

abbrev pub all_hold : List ℕ → List Check → Bool
all_hold item [] = true
all_hold item (check ∷ rest) = holds item check && all_hold item rest
