-- UUIDs (ACPI 6.5, 19.6.142).
use Rattle.std.specs.Prelude.{◌≡◌, ℕ, ◌==◌, ◌&&◌, Bool, if◌then◌else◌, List, ◌++◌, length}
use Rattle.std.specs.Prelude.{reverse, slice_index, slice_range, Option, Some, None}
use Rattle.acpi_base.specs.Bytes.{AreBytes}
use Rattle.acpi_aml.specs.Hex.{bytes_of_digits}

-- the invariant of a UUID
pub record IsUuid (bytes : List ℕ) : Type 0 where
  pub size : length bytes ≡ 16
  pub are : AreBytes bytes

-- 36 characters, with `-` between groups of 8, 4, 4, 4 and 12
abbrev pub is_grouped : List ℕ → Bool
is_grouped text = length text == 36 && slice_index text 8 == 0x2d && slice_index text 13 == 0x2d && slice_index text 18 == 0x2d
    && slice_index text 23 == 0x2d

-- the bytes of the groups; the first three groups are numbers, lowest byte first
abbrev pub grouped : Option (List ℕ) → Option (List ℕ) → Option (List ℕ) → Option (List ℕ) → Option (List ℕ) → Option (List ℕ)
grouped (Some a) (Some b) (Some c) (Some d) (Some e) = Some (reverse a ++ (reverse b ++ (reverse c ++ (d ++ e))))
grouped _ _ _ _ _ = None

-- the 16 bytes of a text, if it has hexadecimal digits in these groups
abbrev pub uuid_bytes : List ℕ → Option (List ℕ)
uuid_bytes text =
    if is_grouped text
    then grouped (bytes_of_digits (slice_range text 0 8))
    (bytes_of_digits (slice_range text 9 13))
    (bytes_of_digits (slice_range text 14 18))
    (bytes_of_digits (slice_range text 19 23))
    (bytes_of_digits (slice_range text 24 36))
    else None
