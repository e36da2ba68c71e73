-- Numbers over the fields of bytes.
use Rattle.std.specs.Prelude.{ℕ, ◌+◌, ◌^◌, ◌==◌, nat_lt, nat_le, ◌&&◌, ◌||◌, Bool, if◌then◌else◌, List, length, Option, Some}
use Rattle.std.specs.Prelude.{None}
use Rattle.acpi_base.specs.Bytes.{le, put}
use Rattle.acpi_base.specs.Walk.{place_offset, place_width, end_of}
use Rattle.acpi_base.specs.declared.walk.Place.{Place}
use Rattle.acpi_make.specs.Fits.{fits}
use Rattle.acpi_text.specs.Form.{number_at}

-- a number over the field at a place, if there is a field and the bytes have it
abbrev pub placed : Place → ℕ → List ℕ → List ℕ
placed place n bytes =
    if nat_lt 0 (place_width place) && nat_le (end_of place) (length bytes)
    then put (place_offset place) (le (place_width place) n) bytes
    else bytes

-- whether a number fits the field at a place, if there is a field
abbrev pub fits_at : Place → ℕ → Bool
fits_at place n = place_width place == 0 || fits (place_width place) n

-- a number that fits the field at a place
abbrev pub if_fits : Place → ℕ → Option ℕ
if_fits place n = if nat_lt n (2 ^ 64) && fits_at place n then Some n else None

-- the number that follows the one in a field, if it fits
abbrev pub next_count : Place → List ℕ → Option ℕ
next_count place bytes = if_fits place (number_at place bytes + 1)
