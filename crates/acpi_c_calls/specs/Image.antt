-- Whether memory has tables, or bytes are an image, and its tables.
use Rattle.std.specs.Prelude.{◌≡◌, ◌≢◌, ℕ, List, map}
use Rattle.acpi_layout.specs.Addresses.{Space, image_at}
use Rattle.acpi_layout.specs.Found.{HasTables}
use Rattle.acpi_layout.specs.declared.fault.ImageFault.{ImageFault}
use Rattle.acpi_layout.specs.declared.fault.ImageFault.TheVariants.{Memory}
use Rattle.acpi_layout.specs.declared.located.Located.{Located}
use Rattle.acpi_c_calls.specs.Refused.{by_image}
use Rattle.acpi_c_calls.specs.declared.image.ImageTable.{ImageTable}
use Rattle.acpi_c_calls.specs.declared.refused.Refused.{Refused}

-- a table as callers see it
abbrev pub image_table : Located → ImageTable
image_table table = record { address = table.address; length = table.length; signature = table.signature }

-- ---- memory

-- memory has some tables
pub record HasSomeTables (memory : Space) (rsdp : ℕ) : Type 0 where
  pub tables : List Located
  pub has : HasTables memory rsdp tables

-- memory has these tables
pub record AreTablesOf (memory : Space) (rsdp : ℕ) (found : List ImageTable) : Type 0 where
  pub tables : List Located
  pub has : HasTables memory rsdp tables
  pub are : found ≡ map image_table tables

-- it has none, or memory of the program ran out
pub record HasNoTables (memory : Space) (rsdp : ℕ) (refused : Refused) : Type 0 where
  pub error : ImageFault
  pub is : refused ≡ by_image error
  pub why : error ≢ Memory → (tables : List Located) → ¬ HasTables memory rsdp tables

-- ---- bytes from a base on

-- they are the image of some tables
abbrev pub IsImageOfTables : List ℕ → ℕ → ℕ → Type 0
IsImageOfTables bytes base rsdp = HasSomeTables (image_at base bytes) rsdp

-- they are the image of these tables
abbrev pub AreImageTables : List ℕ → ℕ → ℕ → List ImageTable → Type 0
AreImageTables bytes base rsdp found = AreTablesOf (image_at base bytes) rsdp found

-- they are the image of none, or memory of the program ran out
abbrev pub IsImageRefusal : List ℕ → ℕ → ℕ → Refused → Type 0
IsImageRefusal bytes base rsdp refused = HasNoTables (image_at base bytes) rsdp refused
