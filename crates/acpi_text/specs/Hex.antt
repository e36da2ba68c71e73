-- Bytes and numbers in hexadecimal.
use Rattle.std.specs.Prelude.{ℕ, zero, suc, List, [], ◌∷◌, ◌++◌, take, drop}
use Rattle.acpi_base.specs.Digit.{hex_byte}

-- a number whose bytes are given lowest first: two digits for each byte, the highest first
abbrev pub number_text : List ℕ → List ℕ
number_text [] = []
number_text (b ∷ bytes) = number_text bytes ++ hex_byte b

-- this many numbers of w bytes, one after another, with a space before each
abbrev pub numbers_text : ℕ → ℕ → List ℕ → List ℕ
numbers_text w zero bytes = []
numbers_text w (suc n) bytes = 32 ∷ (number_text (take w bytes) ++ numbers_text w n (drop w bytes))
