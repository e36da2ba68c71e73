-- The image of the tables of a folder, with the RSDP at an address of its own.
use Rattle.std.specs.Prelude.{◌≡◌, ◌≢◌, ◌⊎◌, ℕ, ◌+◌, ◌-◌, ◌%◌, nat_le, ◌||◌, Bool, true, false, List, [], ◌∷◌, ◌++◌}
use Rattle.std.specs.Prelude.{Option, None, length, take, drop, map, codes}
use Rattle.std.specs.Io.KnownBytes.{Keeps, Appends}
use Rattle.acpi_layout.specs.Addresses.{part, part_of, memory_of}
use Rattle.acpi_layout.specs.Fault.{HasFault}
use Rattle.acpi_layout.specs.FaultText.{text_of}
use Rattle.acpi_layout.specs.Files.{IsLaid}
use Rattle.acpi_layout.specs.Found.{HasTables}
use Rattle.acpi_layout.specs.declared.fault.ImageFault.{ImageFault}
use Rattle.acpi_layout.specs.declared.fault.ImageFault.TheVariants.{Memory}
use Rattle.acpi_layout.specs.declared.layout.Image.{Image}
use Rattle.acpi_layout.specs.declared.located.Located.{Located}
use Rattle.acpi_layout.specs.declared.range.Range.{Range}
use Rattle.acpitool_program.specs.Archiving.{CantBeRead}
use Rattle.acpitool_program.specs.Fault.{line_of, Says}
use Rattle.acpitool_program.specs.Laying.{AreFiles, IsMisread, AreNotLaid, rsdp_line}
use Rattle.acpitool_program.specs.Replaced.{WouldReplace}
use Rattle.acpitool_program.specs.Making.{Saved, NotSaved}
use Rattle.acpitool_program.specs.declared.fault.Fault.{Fault}

-- ---- an image, and its RSDP

-- The RSDP of an image is its last 36 bytes (ACPI 6.5, 5.2.5.3), and begins here.
abbrev pub pointer_at : List ℕ → ℕ
pointer_at bytes = length bytes - 36

-- the bytes before it
abbrev pub tables_of : List ℕ → List ℕ
tables_of bytes = take (pointer_at bytes) bytes

-- its own
abbrev pub pointer_of : List ℕ → List ℕ
pointer_of bytes = drop (pointer_at bytes) bytes

-- the file of the RSDP
abbrev pub pointer_file : List ℕ → List ℕ
pointer_file file = file ++ codes ".rsdp"

-- ---- where it is

-- whether the 36 bytes of an RSDP are apart from this many bytes from base on
abbrev pub is_apart : ℕ → ℕ → ℕ → Bool
is_apart base rsdp size = nat_le (rsdp + 36) base || nat_le (base + size) rsdp

-- an RSDP has a place at this address, a multiple of 16 (ACPI 6.5, 5.2.5.1)
pub record IsPlacedApart (base rsdp size : ℕ) : Type 0 where
  pub aligned : rsdp % 16 ≡ 0
  pub apart : is_apart base rsdp size ≡ true

-- it has none, and why
abbrev pub IsMisplaced : ℕ → ℕ → ℕ → Fault → Type 0
IsMisplaced base rsdp size fault =
    ((rsdp % 16 ≢ 0) × Says None (codes "the address of an RSDP has to be a multiple of 0x10") fault)
    ⊎ ((is_apart base rsdp size ≡ false) × Says None (codes "the RSDP overlaps the tables") fault)

-- two ranges of memory: the tables from base on, and the RSDP at its address
abbrev pub AreApart : ℕ → ℕ → List ℕ → List Range → Type 0
AreApart base rsdp bytes ranges =
    map part_of ranges ≡ part base (tables_of bytes) ∷ part rsdp (pointer_of bytes) ∷ []

-- the tables in these ranges are found from the RSDP on
pub record AreFoundApart (base rsdp : ℕ) (bytes : List ℕ) (tables : List Located) : Type 0 where
  pub ranges : List Range
  pub are : AreApart base rsdp bytes ranges
  pub found : HasTables (memory_of ranges) rsdp tables

-- they aren't, and why
pub record AreNotFoundApart (base rsdp : ℕ) (bytes : List ℕ) (fault : ImageFault) : Type 0 where
  pub ranges : List Range
  pub are : AreApart base rsdp bytes ranges
  pub cause : HasFault (memory_of ranges) rsdp fault

-- the RSDP has a place at its address, and leads to the tables
pub record IsSoundApart (base rsdp : ℕ) (bytes : List ℕ) : Type 0 where
  pub placed : IsPlacedApart base rsdp (pointer_at bytes)
  pub tables : List Located
  pub found : AreFoundApart base rsdp bytes tables

-- the RSDP has no place, and a line says why
pub record HasNoPlace (file : List ℕ) (base rsdp : ℕ) (bytes : List ℕ) (err err' : Option (List ℕ)) (status : ℕ) : Type 0 where
  pub fault : Fault
  pub cause : IsMisplaced base rsdp (pointer_at bytes) fault
  pub complained : Appends err err' (file ++ codes ": " ++ line_of fault ++ 10 ∷ [])
  pub is : status ≡ 1

-- the tables aren't found, and a line says why
pub record AreLost (file : List ℕ) (base rsdp : ℕ) (bytes : List ℕ) (err err' : Option (List ℕ)) (status : ℕ) : Type 0 where
  pub fault : ImageFault
  pub no_memory : fault ≢ Memory
  pub cause : AreNotFoundApart base rsdp bytes fault
  pub complained : Appends err err' (file ++ codes ": " ++ text_of fault ++ 10 ∷ [])
  pub is : status ≡ 1

abbrev pub IsNoApart : List ℕ → ℕ → ℕ → List ℕ → Option (List ℕ) → Option (List ℕ) → ℕ → Type 0
IsNoApart file base rsdp bytes err err' status =
    HasNoPlace file base rsdp bytes err err' status ⊎ AreLost file base rsdp bytes err err' status

-- ---- files

-- the files can't be laid, or the RSDP doesn't lead to their tables
abbrev pub HaveNoneApart : List ℕ → List ℕ → ℕ → ℕ → List (List ℕ) → List (List ℕ)
    → Option (List ℕ) → Option (List ℕ) → ℕ → Type 0
HaveNoneApart folder file base rsdp paths files err err' status =
    AreNotLaid folder base paths files err err' status
    ⊎ ((image : Image) × IsLaid base files image × IsNoApart file base rsdp image.bytes.items err err' status)

-- the files of these paths have this image
pub record IsApartOf (base rsdp : ℕ) (paths : List (List ℕ)) (image : Image) : Type 0 where
  pub files : List (List ℕ)
  pub are : AreFiles paths files
  pub laid : IsLaid base files image
  pub sound : IsSoundApart base rsdp image.bytes.items

-- the files have none
pub record HaveNoApart (folder file : List ℕ) (base rsdp : ℕ) (paths : List (List ℕ))
    (err err' : Option (List ℕ)) (status : ℕ) : Type 0 where
  pub files : List (List ℕ)
  pub are : AreFiles paths files
  pub cause : HaveNoneApart folder file base rsdp paths files err err' status

-- nothing is written: the image or the RSDP would replace one of the files, one is refused, or they have no image
abbrev pub IsNotLaidApart : List ℕ → List ℕ → List ℕ → ℕ → ℕ → List (List ℕ) → Option (List ℕ) → Option (List ℕ) → ℕ → Type 0
IsNotLaidApart folder file pointer base rsdp paths err err' status =
    WouldReplace (codes "image") file err err' status
    ⊎ WouldReplace (codes "RSDP") pointer err err' status
    ⊎ IsMisread paths err err' status
    ⊎ HaveNoApart folder file base rsdp paths err err' status

-- ---- a folder

-- why a folder has no image: the system says which files it has
abbrev pub HasNoneApart : List ℕ → List ℕ → List ℕ → ℕ → ℕ → Option (List ℕ) → Option (List ℕ) → ℕ → Type 0
HasNoneApart folder file pointer base rsdp err err' status =
    ((paths : List (List ℕ)) × IsNotLaidApart folder file pointer base rsdp paths err err' status)
    ⊎ CantBeRead folder err err' status

-- bytes went to a file, of which no contract can say what it has
pub record Went (file bytes : List ℕ) (err err' : Option (List ℕ)) : Type 0 where
  pub saved : Saved err err' 0

-- The tables and the RSDP went to their files, and the line of its address to standard output.
pub record BothWent (file tables pointer_file pointer : List ℕ) (rsdp : ℕ)
    (out out' err err' : Option (List ℕ)) (status : ℕ) : Type 0 where
  pub tables_went : Went file tables err err'
  pub pointer_went : Went pointer_file pointer err err'
  pub told : Appends out out' (rsdp_line rsdp)
  pub is : status ≡ 0

-- both went, or one of the files can't be written
abbrev pub AreSaved : List ℕ → List ℕ → List ℕ → List ℕ → ℕ
    → Option (List ℕ) → Option (List ℕ) → Option (List ℕ) → Option (List ℕ) → ℕ → Type 0
AreSaved file tables pointer_file pointer rsdp out out' err err' status =
    BothWent file tables pointer_file pointer rsdp out out' err err' status
    ⊎ (Keeps out out' × NotSaved file err err' status)
    ⊎ (Keeps out out' × NotSaved pointer_file err err' status)

-- the image of a folder, whose files the system names, is written to two files
pub record IsLaidApart (file : List ℕ) (base rsdp : ℕ) (out out' err err' : Option (List ℕ)) (status : ℕ) : Type 0 where
  pub paths : List (List ℕ)
  pub image : Image
  pub of : IsApartOf base rsdp paths image
  pub saved : AreSaved file (tables_of image.bytes.items) (pointer_file file) (pointer_of image.bytes.items) rsdp
      out out' err err' status

abbrev pub one_file_line : List ℕ
one_file_line = codes "-: the tables and the RSDP go to two files\n"

-- the tables and the RSDP can't both go to standard output
pub record IsOneFile (file : List ℕ) (out out' err err' : Option (List ℕ)) (status : ℕ) : Type 0 where
  pub one : file ≡ codes "-"
  pub complained : Appends err err' one_file_line
  pub silent : Keeps out out'
  pub is : status ≡ 1

-- what comes of `lay --rsdp RSDP FOLDER FILE BASE`
abbrev pub LaysApart : List ℕ → List ℕ → ℕ → ℕ
    → Option (List ℕ) → Option (List ℕ) → Option (List ℕ) → Option (List ℕ) → ℕ → Type 0
LaysApart folder file base rsdp out out' err err' status =
    IsOneFile file out out' err err' status
    ⊎ IsLaidApart file base rsdp out out' err err' status
    ⊎ (HasNoneApart folder file (pointer_file file) base rsdp err err' status × Keeps out out')
