-- PkgLengths, and the lengths of field entries, which have the same form (ACPI 6.5, 20.2.4).
use Rattle.std.specs.Prelude.{◌≡◌, ℕ, ◌+◌, ◌-◌, ◌*◌, ◌/◌, ◌%◌, ◌^◌, ◌<◌, ◌≤◌, ◌==◌, ◌&&◌, nat_lt}
use Rattle.std.specs.Prelude.{if◌then◌else◌, Option, Some, None, List, [], ◌∷◌, ◌++◌, length, take}
use Rattle.acpi_base.specs.Bytes.{AreBytes, le, carried}

-- The value of a length. The top two bits of its first byte are the number of bytes that follow. If none follow, the first byte
-- is the value. Otherwise its bits 4 and 5 are zero, its low four bits are the lowest of the value, and each following byte has
-- the next eight.
abbrev pub value : List ℕ → Option ℕ
value [] = None
value (b ∷ []) = if nat_lt b 64 then Some b else None
value (b ∷ c ∷ more) = if b / 64 == length (c ∷ more) && nat_lt (b % 64) 16 then Some (b % 64 + 16 * carried (c ∷ more)) else None

-- The bytes are the PkgLength of a content: their value is the number of their own bytes and the content's.
pub record Frames (p content : List ℕ) : Type 0 where
  pub bytes : AreBytes p
  pub counts : value p ≡ Some (length p + length content)

-- a value below this can be spelled in this many bytes, from 1 to 4
abbrev pub limit : ℕ → ℕ
limit w = if w == 1 then 2 ^ 6 else (if w == 2 then 2 ^ 12 else (if w == 3 then 2 ^ 20 else (if w == 4 then 2 ^ 28 else 0)))

-- a value in this many bytes
unfoldable pub length_bytes : ℕ → ℕ → List ℕ
length_bytes w v = if w == 1 then v ∷ [] else (64 * (w - 1) + v % 16) ∷ le (w - 1) (v / 16)

-- a content after its PkgLength of this many bytes
abbrev pub with_length : ℕ → List ℕ → List ℕ
with_length w content = length_bytes w (w + length content) ++ content

-- a PkgLength of this many bytes can count itself and the content
abbrev pub FrameFits : ℕ → List ℕ → Type 0
FrameFits w content = w + length content < limit w

-- The width that is written: the least of 1 to 4 that can count itself and n, or 4 if none can. The length of a field entry
-- doesn't count itself, and has this width as well.
abbrev pub least_width : ℕ → ℕ
least_width n =
    if nat_lt (1 + n) (limit 1) then 1
    else (if nat_lt (2 + n) (limit 2) then 2
    else (if nat_lt (3 + n) (limit 3) then 3
    else 4))

-- The bytes begin with those of a value in this width.
pub record StartsWithLength (width v : ℕ) (bytes : List ℕ) : Type 0 where
  pub within : width ≤ length bytes
  pub is : take width bytes ≡ length_bytes width v
