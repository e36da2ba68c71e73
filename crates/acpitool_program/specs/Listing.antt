-- What is printed of an image.
use Rattle.std.specs.Prelude.{◌≡◌, ◌≢◌, ◌⊎◌, ℕ, ◌==◌, Bool, List, [], ◌∷◌, ◌++◌, Option, codes}
use Rattle.std.specs.Prelude.{if◌then◌else◌}
use Rattle.std.specs.Io.KnownBytes.{Keeps, Appends}
use Rattle.acpi_layout.specs.FaultText.{hexadecimal, text_of}
use Rattle.acpi_layout.specs.declared.fault.ImageFault.{ImageFault}
use Rattle.acpi_layout.specs.declared.fault.ImageFault.TheVariants.{Memory, Outside}
use Rattle.acpi_layout.specs.declared.located.Located.{Located}
use Rattle.acpi_layout.specs.declared.root.Root.{Root}
use Rattle.acpitool_program.specs.Image.{HasNoPointer, IsFirstPointerTo, root_address, IsFoundImage, tables_text}
use Rattle.acpitool_program.specs.declared.image.NoImage.{NoImage}
use Rattle.acpitool_program.specs.declared.image.NoImage.TheVariants.{NoPointer, Away, Wrong}

-- the first pointer has this address of an XSDT or an RSDT (ACPI 6.5, 5.2.5.3), and leads to no tables
pub record IsAway (base : ℕ) (bytes : List ℕ) (address : ℕ) : Type 0 where
  pub root : Root
  pub at : ℕ
  pub first : IsFirstPointerTo root bytes at
  pub is : address ≡ root_address root at bytes
  pub none : (tables : List Located) → ¬ IsFoundImage base bytes tables

-- why a pointer at an offset leads to no tables: because of the XSDT or the RSDT at its own address, or else of what the fault
-- says
abbrev pub IsWhyNone : Root → List ℕ → ℕ → ImageFault → NoImage → Type 0
IsWhyNone root bytes at fault (Away address) = (fault ≡ Outside address) × (address ≡ root_address root at bytes)
IsWhyNone root bytes at fault (Wrong other) = other ≡ fault
IsWhyNone root bytes at fault _ = ⊥

-- why bytes aren't an image that begins at a base, unless memory ran out
abbrev pub IsNoImage : ℕ → List ℕ → NoImage → Type 0
IsNoImage base bytes NoPointer = HasNoPointer 36 bytes × HasNoPointer 20 bytes
IsNoImage base bytes (Away address) = IsAway base bytes address
IsNoImage base bytes (Wrong fault) = fault ≢ Memory → (tables : List Located) → ¬ IsFoundImage base bytes tables

-- what is asked if the XSDT or the RSDT isn't in the image, and the base is 0, as it is without a word for it
abbrev pub is_base_right : ℕ → ℕ → List ℕ
is_base_right base address =
    if base == 0 then codes " (is BASE right? the RSDP points to " ++ hexadecimal address ++ codes ")" else []

-- its text
abbrev pub why : ℕ → NoImage → List ℕ
why base NoPointer = codes "no valid RSDP at a multiple of 16 bytes"
why base (Away address) = text_of (Outside address) ++ is_base_right base address
why base (Wrong fault) = text_of fault

-- the bytes are an image, and its tables were printed: as JSON, or a line for each
pub record ListedTables (json : Bool) (base : ℕ) (bytes : List ℕ) (out out' err err' : Option (List ℕ)) (status : ℕ)
    : Type 0 where
  pub tables : List Located
  pub found : IsFoundImage base bytes tables
  pub wrote : Appends out out' (tables_text json base bytes tables)
  pub silent : Keeps err err'
  pub is : status ≡ 0

-- the bytes aren't an image, and a line says why
pub record NotListed (file : List ℕ) (base : ℕ) (bytes : List ℕ) (out out' err err' : Option (List ℕ)) (status : ℕ) : Type 0 where
  pub fault : NoImage
  pub cause : IsNoImage base bytes fault
  pub complained : Appends err err' (file ++ codes ": " ++ why base fault ++ 10 ∷ [])
  pub silent : Keeps out out'
  pub is : status ≡ 1

-- what comes of the bytes of a file
abbrev pub ListedBytes : Bool → List ℕ → ℕ → List ℕ → Option (List ℕ) → Option (List ℕ) → Option (List ℕ) → Option (List ℕ) → ℕ
    → Type 0
ListedBytes json file base bytes out out' err err' status =
    ListedTables json base bytes out out' err err' status ⊎ NotListed file base bytes out out' err err' status

-- the file can't be read, and a line says why
pub record NotRead (file : List ℕ) (out out' err err' : Option (List ℕ)) (status : ℕ) : Type 0 where
  pub why : List ℕ
  pub complained : Appends err err' (file ++ codes ": " ++ why ++ 10 ∷ [])
  pub silent : Keeps out out'
  pub is : status ≡ 2

-- what comes of a file: the system says which bytes it has
abbrev pub Listed : Bool → List ℕ → ℕ → Option (List ℕ) → Option (List ℕ) → Option (List ℕ) → Option (List ℕ) → ℕ → Type 0
Listed json file base out out' err err' status =
    ((bytes : List ℕ) × ListedBytes json file base bytes out out' err err' status) ⊎ NotRead file out out' err err' status
