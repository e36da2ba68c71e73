-- A table with the length and the checksums that its bytes should have.
use Rattle.std.specs.Prelude.{ℕ, ◌+◌, max, ◌==◌, ◌&&◌, ◌||◌, nat_lt, nat_le, nat_eq, Bool, true, if◌then◌else◌}
use Rattle.std.specs.Prelude.{List, [], ◌∷◌, ◌++◌, Option, Some, None, length, sum, take, slice_index, codes}
use Rattle.std.specs.Char.{is_ascii_uppercase, is_ascii_digit}
use Rattle.std.specs.List.{starts_with}
use Rattle.std.specs.Fmt.{decimal}
use Rattle.acpi_base.specs.Bytes.{le, put, complement}
use Rattle.acpi_forms.specs.Kind.{kind_of}
use Rattle.acpi_make.specs.declared.file_kind.FileKind.{FileKind}
use Rattle.acpi_make.specs.declared.file_kind.FileKind.TheVariants.{Rsdp, Facs, Cdat, S3pt, Table}
use Rattle.acpitool_program.specs.Another.{another_of, another_words}
use Rattle.acpitool_program.specs.declared.another.Another.{Another}
use Rattle.acpitool_program.specs.declared.repair.Seal.{Seal}
use Rattle.acpitool_program.specs.declared.repair.Seal.TheVariants.{Length, Checksum, FrontChecksum}
use Rattle.acpitool_program.specs.declared.repair.Unfit.{Unfit}
use Rattle.acpitool_program.specs.declared.repair.Unfit.TheVariants.{NoTable, Short, Long, NotSigned}

-- ---- the fields of each kind

-- whether bytes are a pointer of revision 0 or 1, which has 20 bytes and no length (ACPI 6.5, 5.2.5.3)
abbrev pub is_short_pointer : List ℕ → Bool
is_short_pointer bytes = length bytes == 20 && nat_lt (slice_index bytes 15) 2

-- the fields of bytes of a kind that depend on the other bytes, in the order in which they are set
abbrev pub seals_as : FileKind → List ℕ → List Seal
seals_as Table bytes = Length 4 ∷ Checksum 9 ∷ []
seals_as Rsdp bytes =
    if is_short_pointer bytes then FrontChecksum 8 ∷ []
    else Length 20 ∷ FrontChecksum 8 ∷ Checksum 32 ∷ []
seals_as Facs bytes = Length 4 ∷ []
seals_as S3pt bytes = Length 4 ∷ []
seals_as Cdat bytes = Length 0 ∷ Checksum 5 ∷ []

-- how many bytes there have to be
abbrev pub least : FileKind → List ℕ → ℕ
least Table bytes = 36
least Rsdp bytes = if is_short_pointer bytes then 20 else 36
least Facs bytes = 64
least S3pt bytes = 8
least Cdat bytes = 16

-- ---- bytes that no length and no checksums make a table

-- whether a byte may stand in a signature: a capital letter, a digit or an underscore
abbrev pub is_signature_character : ℕ → Bool
is_signature_character c = is_ascii_uppercase c || is_ascii_digit c || c == 95

-- whether bytes begin with four of these
abbrev pub begins_characters : List ℕ → Bool
begins_characters bytes =
    nat_le 4 (length bytes)
    && is_signature_character (slice_index bytes 0)
    && is_signature_character (slice_index bytes 1)
    && is_signature_character (slice_index bytes 2)
    && is_signature_character (slice_index bytes 3)

-- Whether bytes begin with a signature (ACPI 6.5, 5.2.6). Two of the known ones have another character: those of the Alert
-- Standard Format Table and of the iSCSI Boot Firmware Table.
abbrev pub begins_signature : List ℕ → Bool
begins_signature bytes =
    begins_characters bytes || starts_with nat_eq bytes (codes "ASF!") || starts_with nat_eq bytes (codes "iBFT")

-- whether bytes of a kind have a signature, or need none: those of the other kinds are known by theirs, or by other fields
abbrev pub is_signed : FileKind → List ℕ → Bool
is_signed Table bytes = begins_signature bytes
is_signed Rsdp bytes = true
is_signed Facs bytes = true
is_signed S3pt bytes = true
is_signed Cdat bytes = true

-- bytes of a kind are too few, or more than a length can say, or have no signature
abbrev pub unfit_as : FileKind → List ℕ → Option Unfit
unfit_as kind bytes =
    if nat_lt (length bytes) (least kind bytes) then Some (Short (least kind bytes))
    else (if nat_lt 0xffffffff (length bytes) then Some Long
    else (if is_signed kind bytes then None
    else Some NotSigned))

abbrev pub unfit_by : Option Another → FileKind → List ℕ → Option Unfit
unfit_by (Some another) kind bytes = Some (NoTable another)
unfit_by None kind bytes = unfit_as kind bytes

abbrev pub unfit_of : List ℕ → Option Unfit
unfit_of bytes = unfit_by (another_of bytes) (kind_of bytes) bytes

abbrev pub why_unfit : Unfit → List ℕ
why_unfit (NoTable another) = another_words another
why_unfit (Short least) = codes "fewer than " ++ decimal least ++ codes " bytes"
why_unfit Long = codes "4294967296 bytes or more"
why_unfit NotSigned = codes "the first four bytes are no signature of a table"

-- ---- setting them

-- the bytes with their number in the four bytes at an offset
abbrev pub with_length : ℕ → List ℕ → List ℕ
with_length at bytes = put at (le 4 (length bytes)) bytes

-- the bytes with a byte at an offset that makes the first `count` of them sum to zero modulo 256
abbrev pub with_sum : ℕ → ℕ → List ℕ → List ℕ
with_sum at count bytes =
    put at (complement (sum (take count (put at (0 ∷ []) bytes))) ∷ []) (put at (0 ∷ []) bytes)

abbrev pub set_seal : Seal → List ℕ → List ℕ
set_seal (Length at) bytes = with_length at bytes
set_seal (Checksum at) bytes = with_sum at (length bytes) bytes
set_seal (FrontChecksum at) bytes = with_sum at 20 bytes

abbrev pub set_seals : List Seal → List ℕ → List ℕ
set_seals [] bytes = bytes
set_seals (seal ∷ seals) bytes = set_seals seals (set_seal seal bytes)

-- how many bytes a field needs
abbrev pub needs : Seal → ℕ
needs (Length at) = at + 4
needs (Checksum at) = at + 1
needs (FrontChecksum at) = max (at + 1) 20

abbrev pub need : List Seal → ℕ
need [] = 0
need (seal ∷ seals) = max (needs seal) (need seals)

-- the bytes with the length and the checksums that make them what their signature says
abbrev pub repaired : List ℕ → List ℕ
repaired bytes = set_seals (seals_as (kind_of bytes) bytes) bytes
