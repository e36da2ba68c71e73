-- The numbers of a table that aren't right.
use Rattle.std.specs.Prelude.{ℕ, zero, suc, ◌+◌, ◌/◌, ◌%◌, ◌==◌, nat_lt, nat_le, ◌&&◌, not, Bool, false, if◌then◌else◌}
use Rattle.std.specs.Prelude.{sum, slice_index, Option, Some, None}
use Rattle.std.specs.Prelude.{List, [], ◌∷◌, ◌++◌, length, take, drop}
use Rattle.acpi_base.specs.Bytes.{complement}
use Rattle.acpi_make.specs.Extent.{own}
use Rattle.acpi_make.specs.Right.{with_numbers}
use Rattle.acpi_make.specs.declared.file_kind.FileKind.{FileKind}
use Rattle.acpi_make.specs.declared.file_kind.FileKind.TheVariants.{Table, Rsdp, Facs, Cdat, S3pt}
use Rattle.acpi_make.specs.declared.extent.Own.{Own}

-- whether bytes begin with w bytes of this number, lowest first
abbrev pub begins_with : ℕ → ℕ → List ℕ → Bool
begins_with zero n bytes = n == 0
begins_with (suc w) n [] = false
begins_with (suc w) n (b ∷ bytes) = b == n % 256 && begins_with w (n / 256) bytes

-- whether all bytes of a number's field are there, and it is another number
abbrev pub is_untrue : Own → List ℕ → Bool
is_untrue one bytes =
    nat_le one.width (length (drop one.offset bytes)) && not (begins_with one.width one.number (drop one.offset bytes))

-- the numbers that aren't in their fields
abbrev pub untrue : List Own → List ℕ → List Own
untrue [] bytes = []
untrue (one ∷ owns) bytes = if is_untrue one bytes then one ∷ untrue owns bytes else untrue owns bytes

-- whether the first n bytes sum to zero
abbrev pub sums_to_zero : ℕ → List ℕ → Bool
sums_to_zero n bytes = sum (take n bytes) % 256 == 0

-- The byte at an offset that makes the sum of the first n bytes zero. It is None if their sum is zero, either as they are or with
-- the right numbers.
abbrev pub untrue_sum : ℕ → ℕ → List ℕ → List ℕ → Option Own
untrue_sum offset n bytes right =
    if nat_lt offset (length right) && not (sums_to_zero n bytes) && not (sums_to_zero n right)
    then Some (own offset 1 ((slice_index right offset + complement (sum (take n right))) % 256))
    else None

abbrev pub listed : Option Own → List Own
listed (Some one) = one ∷ []
listed None = []

-- The checksums that aren't right, of the bytes as they are and of those with the right numbers: of a table (ACPI 6.5, 5.2.6), of
-- a pointer, for its first 20 bytes and for all (5.2.5.3), and of a table of coherent devices (CDAT 1.03).
abbrev pub untrue_sums : FileKind → List ℕ → List ℕ → List Own
untrue_sums Table bytes right = listed (untrue_sum 9 (length bytes) bytes right)
untrue_sums Rsdp bytes right =
    listed (untrue_sum 8 20 bytes right)
    ++ listed (untrue_sum 32 (length bytes) bytes (with_numbers (listed (untrue_sum 8 20 bytes right)) right))
untrue_sums Facs bytes right = []
untrue_sums Cdat bytes right = listed (untrue_sum 5 (length bytes) bytes right)
untrue_sums S3pt bytes right = []

-- the numbers that aren't in their fields, and the checksums that aren't right
abbrev pub notes : FileKind → List Own → List ℕ → List Own
notes file_kind owns bytes =
    untrue owns bytes ++ untrue_sums file_kind bytes (with_numbers (untrue owns bytes) bytes)
