-- The right numbers of a table in their fields.
use Rattle.std.specs.Prelude.{ℕ, ◌-◌, nat_le, ◌&&◌, Bool, if◌then◌else◌, List, [], ◌∷◌, length, take}
use Rattle.acpi_base.specs.Bytes.{le, put}
use Rattle.acpi_make.specs.declared.extent.Own.{Own}

-- whether the field of a number is within this many bytes
abbrev pub has_field : Own → ℕ → Bool
has_field one size = nat_le one.width 8 && nat_le one.offset size && nat_le one.width (size - one.offset)

-- the bytes with a number in its field, if the field is there
abbrev pub with_number : Own → List ℕ → List ℕ
with_number one bytes =
    if has_field one (length bytes) then put one.offset (take one.width (le 8 one.number)) bytes else bytes

abbrev pub with_numbers : List Own → List ℕ → List ℕ
with_numbers [] bytes = bytes
with_numbers (one ∷ owns) bytes = with_numbers owns (with_number one bytes)
