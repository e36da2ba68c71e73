-- Tables after the standard header (ACPI 6.5, 5.2.6).
use Rattle.std.specs.Prelude.{◌≡◌, ℕ, ◌+◌, ◌%◌, ◌≤◌, List, [], ◌∷◌, ◌++◌, length, sum}
use Rattle.acpi_base.specs.Bytes.{put, complement, field_at}
use Rattle.acpi_base.specs.Header.{header}
use Rattle.acpi_base.specs.declared.oem.Oem.{Oem}

-- the bytes with the checksum at offset 9 set, so that all of them sum to zero modulo 256
abbrev pub with_checksum : List ℕ → List ℕ
with_checksum bytes = put 9 (complement (sum (put 9 (0 ∷ []) bytes)) ∷ []) bytes

-- the table with a signature, a revision, and these bytes after its header
abbrev pub table_of : List ℕ → ℕ → Oem → List ℕ → List ℕ
table_of signature revision oem body = with_checksum (header signature (36 + length body) revision oem ++ body)

-- The bytes are a correct table: they begin with the standard header of 36 bytes, the length at offset 4 is their number, and all
-- of them sum to zero.
pub record IsTrueTable (bytes : List ℕ) : Type 0 where
  pub header : 36 ≤ length bytes
  pub tells : field_at 4 4 bytes ≡ length bytes
  pub zero : sum bytes % 256 ≡ 0
