-- Bytes, and numbers as bytes.
use Rattle.std.specs.Prelude.{ℕ, ◌+◌, ◌-◌, ◌*◌, ◌%◌, ◌<◌, List, [], ◌∷◌, ◌++◌, length, take, drop, replicate}
use Rattle.std.specs.Int.{bytes_low_first}

-- each is a byte
abbrev pub AreBytes : List ℕ → Type 0
AreBytes [] = Unit {0}
AreBytes (b ∷ bytes) = (b < 256) × AreBytes bytes

-- this many bytes that are zero
abbrev pub zeros : ℕ → List ℕ
zeros n = replicate n 0

-- the lowest w bytes of v, lowest first (ACPI 6.5, 5.2)
abbrev pub le : ℕ → ℕ → List ℕ
le w v = bytes_low_first 0 w v

-- the number that these bytes stand for, lowest byte first
abbrev pub carried : List ℕ → ℕ
carried [] = 0
carried (b ∷ bytes) = b + 256 * carried bytes

-- the number in the w bytes at an offset
abbrev pub field_at : ℕ → ℕ → List ℕ → ℕ
field_at offset w bytes = carried (take w (drop offset bytes))

-- the bytes `with` over those that begin at an offset
unfoldable pub put : ℕ → List ℕ → List ℕ → List ℕ
put offset with bytes = take offset bytes ++ (with ++ drop (offset + length with) bytes)

-- the number that makes a sum zero modulo 256
abbrev pub complement : ℕ → ℕ
complement n = (256 - n % 256) % 256
