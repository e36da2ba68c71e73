-- Records without a standard header.
use Rattle.std.specs.Prelude.{◌≡◌, ◌⊎◌, ℕ, ◌%◌, ◌<◌, ◌≤◌, List, length, sum, take, slice_index}
use Rattle.acpi_base.specs.Bytes.{field_at}

-- the rest of a pointer: nothing before revision 2, or as many bytes as it says, which sum to zero
abbrev pub IsRestOfPointer : List ℕ → Type 0
IsRestOfPointer bytes =
    ((slice_index bytes 15 < 2) × (length bytes ≡ 20))
    ⊎ ((36 ≤ length bytes) × (field_at 20 4 bytes ≡ length bytes) × (sum bytes % 256 ≡ 0))

-- a Root System Description Pointer (ACPI 6.5, 5.2.5.3), but for its signature
pub record IsPointer (bytes : List ℕ) : Type 0 where
  pub some : 20 ≤ length bytes
  pub front : sum (take 20 bytes) % 256 ≡ 0
  pub rest : IsRestOfPointer bytes

-- a Firmware ACPI Control Structure (ACPI 6.5, 5.2.10), but for its signature
pub record IsControl (bytes : List ℕ) : Type 0 where
  pub some : 64 ≤ length bytes
  pub whole : field_at 4 4 bytes ≡ length bytes

-- a Coherent Device Attribute Table (CDAT 1.03), but for its revision and its reserved bytes
pub record IsCoherent (bytes : List ℕ) : Type 0 where
  pub some : 16 ≤ length bytes
  pub whole : field_at 0 4 bytes ≡ length bytes
  pub sums : sum bytes % 256 ≡ 0

-- an S3 Performance Table (ACPI 6.5, 5.2.24), but for its signature
pub record IsPerformance (bytes : List ℕ) : Type 0 where
  pub some : 8 ≤ length bytes
  pub whole : field_at 4 4 bytes ≡ length bytes
