-- Numbers of AML (ACPI 6.5, 20.2.3, ComputationalData).
use Rattle.std.specs.Prelude.{ℕ, ◌^◌, ◌==◌, List, [], ◌∷◌, nat_lt, if◌then◌else◌}
use Rattle.acpi_base.specs.Bytes.{le}

-- A number below this fits the width: 0 for the bytes 00 and 01 alone, or 1, 2, 4 or 8 bytes after a prefix.
abbrev pub number_limit : ℕ → ℕ
number_limit w =
    if w == 0 then 2
    else (if w == 1 then 2 ^ 8
    else (if w == 2 then 2 ^ 16
    else (if w == 4 then 2 ^ 32
    else (if w == 8 then 2 ^ 64
    else 0))))

-- BytePrefix, WordPrefix, DWordPrefix, QWordPrefix
abbrev pub prefix : ℕ → ℕ
prefix w = if w == 1 then 0x0a else (if w == 2 then 0x0b else (if w == 4 then 0x0c else 0x0e))

-- a number in a given width
abbrev pub number_bytes : ℕ → ℕ → List ℕ
number_bytes v w = if w == 0 then v ∷ [] else prefix w ∷ le w v

-- the least width of a number
abbrev pub number_width : ℕ → ℕ
number_width v =
    if nat_lt v 2 then 0
    else (if nat_lt v (2 ^ 8) then 1
    else (if nat_lt v (2 ^ 16) then 2
    else (if nat_lt v (2 ^ 32) then 4
    else 8)))

-- a number in its shortest form
abbrev pub number : ℕ → List ℕ
number v = number_bytes v (number_width v)
