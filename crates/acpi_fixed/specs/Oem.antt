-- The maker of a table.
use Rattle.std.specs.Prelude.{ℕ, List}
use Rattle.acpi_base.specs.declared.oem.Oem.{Oem}

abbrev pub oem_of : List ℕ → List ℕ → ℕ → Oem
oem_of id table_id revision = record { id = id; table_id = table_id; revision = revision }
