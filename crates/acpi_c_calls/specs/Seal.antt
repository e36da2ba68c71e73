-- Tables whose length and checksum are set.
use Rattle.std.specs.Prelude.{◌≡◌, ◌⊎◌, ℕ, ◌<◌, ◌≤◌, ◌^◌, List, length}
use Rattle.acpi_base.specs.Sdt.{sealed}
use Rattle.acpi_base.specs.Table.{IsTrueTable}
use Rattle.acpi_c_calls.specs.Fault.{number_of}
use Rattle.acpi_c_calls.specs.declared.fault.Fault.TheVariants.{ShortHeader, TableLength}

-- The bytes are long enough for a header, and their number fits its length: both are set, and they are a table.
pub record IsSealed (old new : List ℕ) (number place : ℕ) : Type 0 where
  pub bytes : new ≡ sealed old
  pub table : IsTrueTable new
  pub fine : number ≡ 0
  pub nowhere : place ≡ 0

-- They are too short or too long, and unchanged.
pub record IsNotSealed (old new : List ℕ) (number place : ℕ) : Type 0 where
  pub kept : new ≡ old
  pub why : ((length old < 36) × (number ≡ number_of ShortHeader) × (place ≡ length old))
      ⊎ ((2 ^ 32 ≤ length old) × (number ≡ number_of TableLength) × (place ≡ 4))

abbrev pub Seals : List ℕ → List ℕ → ℕ → ℕ → Type 0
Seals old new number place = IsSealed old new number place ⊎ IsNotSealed old new number place
