-- EISA ids (ACPI 6.5, 19.3.4).
use Rattle.std.specs.Prelude.{ℕ, ◌+◌, ◌-◌, ◌*◌, ◌^◌, nat_le, ◌&&◌, Bool, if◌then◌else◌, List, [], ◌∷◌, Option, Some, None}
use Rattle.std.specs.Int.{w32, swap_bytes}
use Rattle.acpi_aml.specs.Hex.{byte_of_digits}

abbrev pub is_upper : ℕ → Bool
is_upper b = nat_le 0x41 b && nat_le b 0x5a

-- three letters, as numbers from 1 to 26, at bits 26, 21 and 16, and two bytes below them
abbrev pub packed : ℕ → ℕ → ℕ → ℕ → ℕ → ℕ
packed a b c high low = (a - 0x40) * 2 ^ 26 + (b - 0x40) * 2 ^ 21 + (c - 0x40) * 2 ^ 16 + high * 2 ^ 8 + low

-- the 32 bits with their bytes in the opposite order, if both bytes are given
abbrev pub swapped : ℕ → ℕ → ℕ → Option ℕ → Option ℕ → Option ℕ
swapped a b c (Some high) (Some low) = Some (swap_bytes w32 (packed a b c high low))
swapped a b c _ _ = None

-- the id of a text of three upper-case letters and four hexadecimal digits
abbrev pub eisa_value : List ℕ → Option ℕ
eisa_value (a ∷ b ∷ c ∷ d ∷ e ∷ f ∷ g ∷ []) =
    if is_upper a && is_upper b && is_upper c
    then swapped a b c (byte_of_digits d e) (byte_of_digits f g)
    else None
eisa_value _ = None
