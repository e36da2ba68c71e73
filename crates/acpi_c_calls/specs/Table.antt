-- Why bytes aren't a table.
use Rattle.std.specs.Prelude.{◌≡◌, ℕ, List}
use Rattle.acpi_read.specs.Table.{IsFault}
use Rattle.acpi_term.specs.declared.read_error.ReadError.{ReadError}
use Rattle.acpi_c_calls.specs.Refused.{by_read}
use Rattle.acpi_c_calls.specs.declared.refused.Refused.{Refused}

-- the first of the three faults of bytes that aren't a table
pub record IsTableRefusal (bytes : List ℕ) (refused : Refused) : Type 0 where
  pub error : ReadError
  pub is : refused ≡ by_read error
  pub why : IsFault error bytes
