-- Images that are laid of tables, which lie one after another.
use Rattle.std.specs.Prelude.{◌≡◌, ◌≢◌, ◌⊎◌, ℕ, ◌||◌, nat_lt, if◌then◌else◌, List, [], ◌∷◌, ◌++◌, length, Option, Some, None}
use Rattle.std.specs.List.{concat}
use Rattle.acpi_base.specs.Bytes.{field_at}
use Rattle.acpi_layout.specs.Files.{IsLaid, IsLayFault}
use Rattle.acpi_layout.specs.declared.layout.Image.{Image}
use Rattle.acpi_layout.specs.declared.lay_fault.LayFault.{LayFault}
use Rattle.acpi_layout.specs.declared.lay_fault.LayFault.TheVariants as faults
use Rattle.acpi_c_calls.specs.Refused.{by_memory}
use Rattle.acpi_c_calls.specs.declared.fault.Fault.{Fault}
use Rattle.acpi_c_calls.specs.declared.fault.Fault.TheVariants as fault
use Rattle.acpi_c_calls.specs.declared.refused.Refused.{Refused}

-- ---- tables one after another

-- the size of the first table, by its length at offset 4, if it is there as a whole
abbrev pub first_table : List ℕ → Option ℕ
first_table bytes =
    if nat_lt (length bytes) 8 || nat_lt (field_at 4 4 bytes) 8 || nat_lt (length bytes) (field_at 4 4 bytes)
    then None
    else Some (field_at 4 4 bytes)

-- a table is as long as it says
abbrev pub IsOneTable : List ℕ → Type 0
IsOneTable table = first_table table ≡ Some (length table)

abbrev pub AreWhole : List (List ℕ) → Type 0
AreWhole [] = Unit {0}
AreWhole (table ∷ tables) = IsOneTable table × AreWhole tables

-- the bytes are these tables, one after another
pub record AreTables (bytes : List ℕ) (tables : List (List ℕ)) : Type 0 where
  pub joined : concat tables ≡ bytes
  pub are : AreWhole tables

-- after some tables there are bytes at whose front there is none
pub record IsCut (bytes : List ℕ) (count : ℕ) : Type 0 where
  pub tables : List (List ℕ)
  pub rest : List ℕ
  pub joined : concat tables ++ rest ≡ bytes
  pub are : AreWhole tables
  pub more : rest ≢ []
  pub none : first_table rest ≡ None
  pub before : count ≡ length tables

-- memory ran out, or there is no table, with the number of the tables before it as its place
abbrev pub AreNoTables : List ℕ → Refused → Type 0
AreNoTables bytes refused =
    (refused ≡ by_memory) ⊎ ((refused.fault ≡ fault.TableLength) × IsCut bytes refused.place)

-- ---- faults of laying

abbrev pub fault_of_lay : LayFault → Fault
fault_of_lay faults.Memory = fault.Memory
fault_of_lay faults.Base = fault.LayBase
fault_of_lay (faults.Second index) = fault.LaySecond
fault_of_lay faults.NoFadt = fault.LayNoFadt
fault_of_lay faults.NoDsdt = fault.LayNoDsdt
fault_of_lay faults.NoFacs = fault.LayNoFacs
fault_of_lay faults.ShortFadt = fault.LayShortFadt
fault_of_lay faults.NoSpace = fault.LayNoSpace

-- which table, counted from 0
abbrev pub place_of_lay : LayFault → ℕ
place_of_lay (faults.Second index) = index
place_of_lay _ = 0

abbrev pub by_lay : LayFault → Refused
by_lay error = record { fault = fault_of_lay error; place = place_of_lay error }

-- ---- images

-- the bytes are the image of these tables for an address, with the RSDP at another
pub record IsImageFor (bytes : List ℕ) (base rsdp : ℕ) (laid : List ℕ) : Type 0 where
  pub tables : List (List ℕ)
  pub are : AreTables bytes tables
  pub image : Image
  pub is_laid : IsLaid base tables image
  pub all : laid ≡ image.bytes.items
  pub pointer : rsdp ≡ image.rsdp

-- the tables aren't laid
pub record IsUnlaid (bytes : List ℕ) (base : ℕ) (refused : Refused) : Type 0 where
  pub tables : List (List ℕ)
  pub are : AreTables bytes tables
  pub error : LayFault
  pub is : refused ≡ by_lay error
  pub why : error ≢ faults.Memory → IsLayFault base tables error

-- why there is no image
abbrev pub IsLayRefusal : List ℕ → ℕ → ℕ → Refused → Type 0
IsLayRefusal bytes base rsdp refused = (rsdp ≡ 0) × (AreNoTables bytes refused ⊎ IsUnlaid bytes base refused)
