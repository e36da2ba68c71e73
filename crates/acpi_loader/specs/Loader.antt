-- The three files for a loader.
use Rattle.std.specs.Prelude.{◌≡◌, ◌≢◌, ℕ, ◌+◌, ◌^◌, ◌<◌, ◌≤◌, List, [], ◌∷◌, ◌++◌, length, Bool, true, false}
use Rattle.acpi_base.specs.Bytes.{put}
use Rattle.acpi_layout.specs.Files.{Main, others, IsLaid, IsLayFault}
use Rattle.acpi_layout.specs.declared.lay_fault.LayFault.TheVariants.{Memory}
use Rattle.acpi_layout.specs.declared.layout.Image.{Image}
use Rattle.acpi_loader.specs.Command.{script_of}
use Rattle.acpi_loader.specs.Places.{places_of, commands_of}
use Rattle.acpi_loader.specs.Tables.{Tables, fadt_place, xsdt_place, tables_at, rsdp_at}
use Rattle.acpi_loader.specs.declared.fault.LoaderFault.{LoaderFault}
use Rattle.acpi_loader.specs.declared.fault.LoaderFault.TheVariants.{NotLaid, TooLarge}
use Rattle.acpi_loader.specs.declared.loader.Loader.{Loader}
use Rattle.acpi_loader.specs.declared.places.Places.{Places}

-- The tables as they are laid for the address 0, so that an address in them is an offset. The checksums of the FADT and of the
-- XSDT are 0.
abbrev pub unsummed_tables : ℕ → ℕ → List ℕ → List ℕ
unsummed_tables fadt xsdt bytes = put (fadt + 9) (0 ∷ []) (put (xsdt + 9) (0 ∷ []) bytes)

abbrev pub tables_file : Tables → List ℕ
tables_file tables = unsummed_tables (fadt_place tables) (xsdt_place 0 tables) (tables_at 0 tables)

-- the RSDP, as it is laid with them, with both checksums 0
abbrev pub unsummed_rsdp : List ℕ → List ℕ
unsummed_rsdp bytes = put 8 (0 ∷ []) (put 32 (0 ∷ []) bytes)

abbrev pub rsdp_file : Tables → List ℕ
rsdp_file tables = unsummed_rsdp (rsdp_at 0 tables)

-- Files are these tables.
pub record AreTables (files : List (List ℕ)) (tables : Tables) : Type 0 where
  pub main : Main files tables.facs tables.dsdt tables.fadt
  pub others : tables.others ≡ others files
  pub has_fields : 148 ≤ length tables.fadt

-- the number of bytes of the first file, or 0
abbrev pub first_size : List (List ℕ) → ℕ
first_size [] = 0
first_size (file ∷ files) = length file

-- whether there is a file
abbrev pub are_some : List (List ℕ) → Bool
are_some [] = false
are_some (file ∷ files) = true

-- The image of these tables for the address 0. It is smaller than 2^32 bytes, as the number that counts them in a command.
pub record IsImageOf (files : List (List ℕ)) (image : Image) (tables : Tables) : Type 0 where
  pub are : AreTables files tables
  pub bytes : image.bytes.items ≡ tables_at 0 tables ++ rsdp_at 0 tables
  pub rsdp : image.rsdp ≡ length (tables_at 0 tables)
  pub small : length (tables_at 0 tables) + length (rsdp_at 0 tables) < 2 ^ 32

abbrev pub IsSmallImage : List (List ℕ) → Image → Type 0
IsSmallImage files image = (tables : Tables) × IsImageOf files image tables

-- the tables of this image that hold addresses
abbrev pub IsPlaced : List (List ℕ) → Image → Places → Type 0
IsPlaced files image places = (tables : Tables) × IsImageOf files image tables × (places ≡ places_of tables)

-- the loader of files
pub record IsLoader (files : List (List ℕ)) (loader : Loader) : Type 0 where
  pub all : Tables
  pub are : AreTables files all
  pub small : length (tables_at 0 all) + length (rsdp_at 0 all) < 2 ^ 32
  pub tables : loader.tables.items ≡ tables_file all
  pub rsdp : loader.rsdp.items ≡ rsdp_file all
  pub script : loader.script.items ≡ script_of (commands_of (places_of all))

-- why there is none: the files can't be laid, or their image is too large
abbrev pub IsLoaderFault : List (List ℕ) → LoaderFault → Type 0
IsLoaderFault files (NotLaid fault) = fault ≢ Memory → IsLayFault 0 files fault
IsLoaderFault files TooLarge = (image : Image) × IsLaid 0 files image × (2 ^ 32 ≤ length image.bytes.items)
