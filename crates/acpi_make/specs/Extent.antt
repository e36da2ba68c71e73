-- The numbers that a table has of itself, and where they stand.
use Rattle.std.specs.Prelude.{ℕ, ◌+◌, ◌^◌, nat_le, nat_lt, ◌&&◌, if◌then◌else◌, List, [], ◌∷◌}
use Rattle.acpi_base.specs.Walk.{place_offset, place_width, end_of}
use Rattle.acpi_base.specs.declared.walk.Place.{Place}
use Rattle.acpi_base.specs.declared.walk.Sizes.{Sizes}
use Rattle.acpi_base.specs.declared.walk.Sizes.TheVariants.{EachOf, ToldAt, ByType}
use Rattle.acpi_make.specs.declared.extent.Own.{Own}

-- a number of w bytes at an offset
abbrev pub own : ℕ → ℕ → ℕ → Own
own offset w n = record { offset = offset; width = w; number = n }

-- A number at a place of a structure of this size, if the structure has the place. No structure begins at 2^62 or after it.
abbrev pub own_at : ℕ → ℕ → Place → ℕ → List Own
own_at start size place n =
    if nat_lt start (2 ^ 62) && nat_le 1 (place_width place) && nat_le (end_of place) size
    then own (start + place_offset place) (place_width place) n ∷ []
    else []

-- the length of a structure, if it has a field for it
abbrev pub size_own : Sizes → ℕ → ℕ → List Own
size_own (EachOf n) start size = []
size_own (ToldAt place) start size = own_at start size place size
size_own (ByType kind types) start size = []
