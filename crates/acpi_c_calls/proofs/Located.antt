-- The tables in memory that was checked.
use Rattle.std.proofs.Common.{◌≡◌, ℕ, List, Result, Ok, Err, IfOk, IfErr, map, refl}
use Rattle.acpi_layout.specs.Addresses.{Space}
use Rattle.acpi_layout.specs.Found.{HasTables}
use Rattle.acpi_layout.specs.declared.fault.ImageFault.TheVariants.{Memory}
use Rattle.acpi_layout.specs.declared.located.Located.{Located}
use Rattle.acpi_c_calls.specs.Image.{image_table, AreTablesOf, HasNoTables}
use Rattle.acpi_c_calls.specs.Refused.{by_memory}
use Rattle.acpi_c_calls.specs.Results.{seen, IsOutcome}
use Rattle.acpi_c_calls.specs.declared.image.ImageTable.{ImageTable}
use Rattle.acpi_c_calls.specs.declared.refused.Refused.{Refused}

pub outcome : {A : Type 0} (view : A → List ImageTable) (result : Result A Refused) (memory : Space) (rsdp : ℕ)
    (tables : List Located) → HasTables memory rsdp tables
    → IfOk result (λ found. view found ≡ map image_table tables) → IfErr result (λ refused. refused ≡ by_memory)
    → IsOutcome (AreTablesOf memory rsdp) (HasNoTables memory rsdp) (seen view result)
outcome view (Ok found) memory rsdp tables has are no_memory = record { tables = tables; has = has; are = are }
outcome view (Err refused) memory rsdp tables has are no_memory =
    record { error = Memory; is = no_memory; why = λ other. absurd (other refl) }
