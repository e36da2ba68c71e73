-- Bytes of hexadecimal digits.
use Rattle.std.specs.Prelude.{ℕ, ◌+◌, ◌*◌, List, [], ◌∷◌, Option, Some, None}
use Rattle.acpi_base.specs.Digit.{digit_value}

abbrev pub paired : Option ℕ → Option ℕ → Option ℕ
paired (Some high) (Some low) = Some (16 * high + low)
paired _ _ = None

-- the byte that two digits stand for
abbrev pub byte_of_digits : ℕ → ℕ → Option ℕ
byte_of_digits high low = paired (digit_value high) (digit_value low)

abbrev pub led : Option ℕ → Option (List ℕ) → Option (List ℕ)
led (Some byte) (Some bytes) = Some (byte ∷ bytes)
led _ _ = None

-- the bytes that pairs of digits stand for
abbrev pub bytes_of_digits : List ℕ → Option (List ℕ)
bytes_of_digits [] = Some []
bytes_of_digits (high ∷ low ∷ more) = led (byte_of_digits high low) (bytes_of_digits more)
bytes_of_digits (odd ∷ []) = None
