-- Memory: bytes at physical addresses.
use Rattle.std.specs.Prelude.{ℕ, ◌+◌, ◌-◌, ◌≤◌, nat_le, nat_lt, ◌&&◌, Bool, if◌then◌else◌, List, [], ◌∷◌, length, take, drop}
use Rattle.acpi_layout.specs.declared.range.Range.{Range}

-- ---- an image: its bytes, from the address of the first one, its base

-- n bytes from an address on are bytes of the image
pub record Lies (base : ℕ) (bytes : List ℕ) (address n : ℕ) : Type 0 where
  pub begins : base ≤ address
  pub ends : address + n ≤ base + length bytes

-- these n bytes
abbrev pub bytes_at : ℕ → List ℕ → ℕ → ℕ → List ℕ
bytes_at base bytes address n = take n (drop (address - base) bytes)

-- ---- memory that may have several ranges

-- bytes from an address on
pub record Part : Type 0 where
  pub base : ℕ
  pub bytes : List ℕ

abbrev pub part : ℕ → List ℕ → Part
part from content = record { base = from; bytes = content }

-- An address space: of each address the bytes among which a table is that begins there.
abbrev pub Space : Type 0
Space = ℕ → Part

-- memory that is one image
abbrev pub image_at : ℕ → List ℕ → Space
image_at base bytes = λ address. part base bytes

-- n bytes from an address on are bytes of the memory, in one range
abbrev pub LiesIn : Space → ℕ → ℕ → Type 0
LiesIn memory address n = Lies (memory address).base (memory address).bytes address n

-- these n bytes
abbrev pub bytes_in : Space → ℕ → ℕ → List ℕ
bytes_in memory address n = bytes_at (memory address).base (memory address).bytes address n

-- ---- ranges

abbrev pub part_of : Range → Part
part_of range = part range.address range.bytes.now

-- an address is that of a byte of a range
abbrev pub holds : Range → ℕ → Bool
holds range address = nat_le range.address address && nat_lt address (range.address + length range.bytes.now)

-- Memory of ranges: an address is looked up in the first range that holds it. If none does, nothing lies there, neither in no
-- range nor in the last one.
abbrev pub memory_of : List Range → Space
memory_of [] = image_at 0 []
memory_of (range ∷ []) = λ address. part_of range
memory_of (range ∷ other ∷ ranges) = λ address. if holds range address then part_of range else memory_of (other ∷ ranges) address
