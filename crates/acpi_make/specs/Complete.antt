-- What a text leaves to be worked out.
use Rattle.std.specs.Prelude.{ℕ, zero, suc, ◌+◌, ◌-◌, nat_lt, ◌&&◌, Bool, true, false, if◌then◌else◌}
use Rattle.std.specs.Prelude.{List, [], ◌∷◌, ◌++◌, length, take, drop, Result, Ok, Err}
use Rattle.acpi_base.specs.Bytes.{le, complement}
use Rattle.acpi_make.specs.Fits.{fits}
use Rattle.acpi_make.specs.Gives.{with_front}
use Rattle.acpi_make.specs.Item.{known_cells}
use Rattle.acpi_make.specs.Extent.{own}
use Rattle.acpi_make.specs.declared.file_kind.FileKind.{FileKind}
use Rattle.acpi_make.specs.declared.file_kind.FileKind.TheVariants.{Table, Rsdp, Facs, Cdat, S3pt}
use Rattle.acpi_make.specs.Fault.{Fault, fault}
use Rattle.acpi_make.specs.declared.fault.Wanted.TheVariants as wants
use Rattle.acpi_make.specs.declared.item.Cell.{Cell}
use Rattle.acpi_make.specs.declared.item.Cell.TheVariants.{Byte, Left}
use Rattle.acpi_make.specs.declared.extent.Own.{Own}

-- ---- fields

-- whether there are w bytes, and none of them is known
abbrev pub are_left : ℕ → List Cell → Bool
are_left zero cells = true
are_left (suc w) [] = false
are_left (suc w) (Left place ∷ cells) = are_left w cells
are_left (suc w) (Byte b ∷ cells) = false

-- a number over the w bytes at an offset
abbrev pub written : ℕ → ℕ → ℕ → List Cell → List Cell
written offset w n cells = take offset cells ++ (known_cells (le w n) ++ drop (offset + w) cells)

-- a number in a field, if all bytes of the field are there, none of them is known, and the number fits
abbrev pub filled : ℕ → ℕ → ℕ → List Cell → List Cell
filled offset w n cells =
    if nat_lt offset (length cells) && are_left w (drop offset cells) && fits w n
    then written offset w n cells
    else cells

abbrev pub all_filled : List Own → List Cell → List Cell
all_filled [] cells = cells
all_filled (one ∷ owns) cells = all_filled owns (filled one.offset one.width one.number cells)

-- ---- checksums

-- the sum of the bytes that are known
abbrev pub known_sum : List Cell → ℕ
known_sum [] = 0
known_sum (Left place ∷ cells) = known_sum cells
known_sum (Byte b ∷ cells) = b + known_sum cells

-- the byte at an offset that makes the sum of the first n bytes zero, if it isn't known
abbrev pub summed_at : ℕ → ℕ → List Cell → List Cell
summed_at offset n cells = filled offset 1 (complement (known_sum (take n cells))) cells

-- The checksums: of a table (ACPI 6.5, 5.2.6), of a pointer, for its first 20 bytes and for all (5.2.5.3), and of a table of
-- coherent devices (CDAT 1.03).
abbrev pub summed : FileKind → List Cell → List Cell
summed Table cells = summed_at 9 (length cells) cells
summed Rsdp cells = summed_at 32 (length cells) (summed_at 8 20 cells)
summed Facs cells = cells
summed Cdat cells = summed_at 5 (length cells) cells
summed S3pt cells = cells

-- The length of all bytes: of a table (5.2.6), of a pointer (5.2.5.3), of a control structure (5.2.10), of a table of coherent
-- devices (CDAT 1.03), and of a table of S3 performance (ACPI 6.5, 5.2.24).
abbrev pub length_own : FileKind → ℕ → Own
length_own Table total = own 4 4 total
length_own Rsdp total = own 20 4 total
length_own Facs total = own 4 4 total
length_own Cdat total = own 0 4 total
length_own S3pt total = own 4 4 total

-- ---- all bytes

-- all bytes, or the place of the first that isn't known
abbrev pub known : List Cell → Result (List ℕ) Fault
known [] = Ok []
known (Byte b ∷ cells) = with_front (b ∷ []) (known cells)
known (Left place ∷ cells) = Err (fault place (place - 2) wants.Bytes)

-- the bytes with these numbers and the checksums worked out
abbrev pub completed : FileKind → List Own → List Cell → Result (List ℕ) Fault
completed file_kind owns cells = known (summed file_kind (all_filled owns cells))
