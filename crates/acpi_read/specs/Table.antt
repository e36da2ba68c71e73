-- Errors of bytes that aren't a table (ACPI 6.5, 5.2.6).
use Rattle.std.specs.Prelude.{◌≡◌, ◌≢◌, ℕ, ◌%◌, ◌≤◌, ◌<◌, List, length, sum}
use Rattle.acpi_base.specs.Bytes.{field_at}
use Rattle.acpi_term.specs.declared.read_error.ReadError.{ReadError}
use Rattle.acpi_term.specs.declared.read_error.ReadError.TheVariants.{ShortHeader, TableLength, Sum}

-- `ShortHeader` has the number of bytes, `TableLength` the offset of the length, and `Sum` the offset of the checksum. Each is
-- returned only if none of those before it applies.
abbrev pub IsFault : ReadError → List ℕ → Type 0
IsFault (ShortHeader n) bytes = (n ≡ length bytes) × (length bytes < 36)
IsFault (TableLength n) bytes = (n ≡ 4) × (36 ≤ length bytes) × (field_at 4 4 bytes ≢ length bytes)
IsFault (Sum n) bytes = (n ≡ 9) × (36 ≤ length bytes) × (field_at 4 4 bytes ≡ length bytes) × (sum bytes % 256 ≢ 0)
IsFault _ bytes = ⊥
