-- The image of the tables of a folder.
use Rattle.std.specs.Prelude.{◌≡◌, ◌≢◌, ◌⊎◌, ℕ, nat_eq, List, [], ◌∷◌, ◌++◌, Bool, true, false, ◌||◌, Option, Some, None, Ok}
use Rattle.std.specs.Prelude.{codes}
use Rattle.std.specs.List.{slice_get, ends_with}
use Rattle.std.specs.Io.KnownBytes.{Keeps, Appends}
use Rattle.acpi_compile.specs.Compiled.{is_asl, IsCompiled}
use Rattle.acpi_forms.specs.Kind.{kind_of}
use Rattle.acpi_forms.specs.Makes.{IsMade}
use Rattle.acpi_layout.specs.FaultText.{hexadecimal}
use Rattle.acpi_layout.specs.Files.{IsLaid, IsLayFault}
use Rattle.acpi_layout.specs.FilesText.{text_of}
use Rattle.acpi_layout.specs.declared.lay_fault.LayFault.{LayFault}
use Rattle.acpi_layout.specs.declared.lay_fault.LayFault.TheVariants.{Memory, Second}
use Rattle.acpi_layout.specs.declared.layout.Image.{Image}
use Rattle.acpi_layout.specs.declared.located.Located.{Located}
use Rattle.acpi_make.specs.declared.file_kind.FileKind.{FileKind}
use Rattle.acpi_make.specs.declared.file_kind.FileKind.TheVariants.{Rsdp, Facs, Cdat, S3pt, Table}
use Rattle.acpi_make.specs.declared.make.Made.{Made}
use Rattle.acpitool_program.specs.Archiving.{CantBeRead}
use Rattle.acpitool_program.specs.Fault.{line_of, Says}
use Rattle.acpitool_program.specs.Image.{IsFoundImage}
use Rattle.acpitool_program.specs.Listing.{IsNoImage, why}
use Rattle.acpitool_program.specs.Compiling.{CompiledOrNot}
use Rattle.acpitool_program.specs.Making.{MadeOrNot, Saved, NotSaved}
use Rattle.acpitool_program.specs.Replaced.{WouldReplace}
use Rattle.acpitool_program.specs.Structures.{IsSoundOr}
use Rattle.acpitool_program.specs.Text.{IsKind, IsTextFault}
use Rattle.acpitool_program.specs.declared.fault.Fault.{Fault}
use Rattle.acpitool_program.specs.declared.image.NoImage.{NoImage}

-- ---- files

-- whether a file is a text by its name
abbrev pub is_text : List ℕ → Bool
is_text path =
    ends_with nat_eq path (codes ".txt") || ends_with nat_eq path (codes ".asl") || ends_with nat_eq path (codes ".dsl")

-- the text of fields is made into a table of these bytes, with which nothing is wrong
pub record IsTableOfFields (text bytes : List ℕ) : Type 0 where
  pub made : Made
  pub is : IsMade text (Ok made)
  pub same : made.bytes.items ≡ bytes
  pub right : made.untrue.items ≡ []
  pub sound : IsSoundOr bytes None

-- the bytes are those of the table of a text, which is ASL or not
abbrev pub IsTableBy : Bool → List ℕ → List ℕ → Type 0
IsTableBy true text bytes = IsCompiled text bytes
IsTableBy false text bytes = IsTableOfFields text bytes

pub record IsTableOf (text bytes : List ℕ) : Type 0 where
  pub by : IsTableBy (is_asl text) text bytes

-- what comes of a text, which is ASL or not: the bytes of its table, if there is one
abbrev pub OfTextOrNot : Bool → List ℕ → List ℕ → Option (List ℕ) → Option (List ℕ) → Option (List ℕ) → Type 0
OfTextOrNot true path text found err err' = CompiledOrNot false path text found err err'
OfTextOrNot false path text found err err' = MadeOrNot false path text found err err'

-- whether bytes are those of a text's table
abbrev pub AreOfText : Bool → List ℕ → Type 0
AreOfText true bytes = (text : List ℕ) × IsTableOf text bytes
AreOfText false bytes = Unit {0}

-- whether no XSDT lists tables of a kind, and no FADT points to them
abbrev pub is_apart : FileKind → Bool
is_apart Cdat = true
is_apart S3pt = true
is_apart Rsdp = false
is_apart Facs = false
is_apart Table = false

-- bytes are what their signature says: a table, an RSDP or a FACS
pub record MayBeLaid (bytes : List ℕ) : Type 0 where
  pub kind : IsKind (kind_of bytes) bytes
  pub listed : is_apart (kind_of bytes) ≡ false

-- these are the bytes of a file, or those of the table of a text
pub record IsFile (path bytes : List ℕ) : Type 0 where
  pub of : AreOfText (is_text path) bytes
  pub may_be : MayBeLaid bytes

abbrev pub AreFiles : List (List ℕ) → List (List ℕ) → Type 0
AreFiles [] [] = Unit {0}
AreFiles (path ∷ paths) (file ∷ files) = IsFile path file × AreFiles paths files
AreFiles _ _ = ⊥

-- bytes aren't what their signature says, or no XSDT lists them
abbrev pub IsFileFault : List ℕ → Fault → Type 0
IsFileFault bytes fault =
    IsTextFault bytes fault
    ⊎ ((is_apart (kind_of bytes) ≡ true) × Says (Some 0) (codes "no XSDT lists a CDAT or an S3PT") fault)

-- the bytes of a file have such a fault, and a line says so
pub record IsNoFile (path bytes : List ℕ) (err err' : Option (List ℕ)) (status : ℕ) : Type 0 where
  pub fault : Fault
  pub cause : IsFileFault bytes fault
  pub complained : Appends err err' (path ++ codes ": " ++ line_of fault ++ 10 ∷ [])
  pub is : status ≡ 1

-- a text isn't made into a table, or numbers of its table are wrong, and lines say so
pub record IsUnmade (path : List ℕ) (err err' : Option (List ℕ)) (status : ℕ) : Type 0 where
  pub text : List ℕ
  pub not : OfTextOrNot (is_asl text) path text None err err'
  pub is : status ≡ 1

-- a file isn't laid: it can't be read, isn't what its signature says, or is a text without a table
abbrev pub IsRefused : List ℕ → Option (List ℕ) → Option (List ℕ) → ℕ → Type 0
IsRefused path err err' status =
    ((bytes : List ℕ) × IsNoFile path bytes err err' status) ⊎ CantBeRead path err err' status
    ⊎ ((is_text path ≡ true) × IsUnmade path err err' status)

-- one of the files is refused: the first, as no more of them is read
pub record IsMisread (paths : List (List ℕ)) (err err' : Option (List ℕ)) (status : ℕ) : Type 0 where
  pub before : List (List ℕ)
  pub files : List (List ℕ)
  pub path : List ℕ
  pub after : List (List ℕ)
  pub are : paths ≡ before ++ path ∷ after
  pub fine : AreFiles before files
  pub refused : IsRefused path err err' status

-- ---- why files have no image

-- the path, or the folder if there is none
abbrev pub or_folder : List ℕ → Option (List ℕ) → List ℕ
or_folder folder (Some path) = path
or_folder folder None = folder

-- what a fault is said of: the file that is a second one of its signature, or else the folder
abbrev pub blamed : List ℕ → List (List ℕ) → LayFault → List ℕ
blamed folder paths (Second index) = or_folder folder (slice_get paths index)
blamed folder paths fault = folder

-- the files can't be laid, and a line says why
pub record AreNotLaid (folder : List ℕ) (base : ℕ) (paths files : List (List ℕ))
    (err err' : Option (List ℕ)) (status : ℕ) : Type 0 where
  pub fault : LayFault
  pub no_memory : fault ≢ Memory
  pub cause : IsLayFault base files fault
  pub complained : Appends err err' (blamed folder paths fault ++ codes ": " ++ text_of fault ++ 10 ∷ [])
  pub is : status ≡ 1

-- the bytes aren't an image whose tables are found, and a line says why
pub record IsNotFound (file : List ℕ) (base : ℕ) (bytes : List ℕ) (err err' : Option (List ℕ)) (status : ℕ) : Type 0 where
  pub fault : NoImage
  pub cause : IsNoImage base bytes fault
  pub complained : Appends err err' (file ++ codes ": " ++ why base fault ++ 10 ∷ [])
  pub is : status ≡ 1

-- the files can't be laid, or the tables of their image aren't found
abbrev pub HaveNoneLaid : List ℕ → List ℕ → ℕ → List (List ℕ) → List (List ℕ) → Option (List ℕ) → Option (List ℕ) → ℕ → Type 0
HaveNoneLaid folder file base paths files err err' status =
    AreNotLaid folder base paths files err err' status
    ⊎ ((image : Image) × IsLaid base files image × IsNotFound file base image.bytes.items err err' status)

-- the files have no image
pub record HaveNoImage (folder file : List ℕ) (base : ℕ) (paths : List (List ℕ))
    (err err' : Option (List ℕ)) (status : ℕ) : Type 0 where
  pub files : List (List ℕ)
  pub are : AreFiles paths files
  pub cause : HaveNoneLaid folder file base paths files err err' status

-- no image is written
abbrev pub IsNotLaid : List ℕ → List ℕ → ℕ → List (List ℕ) → Option (List ℕ) → Option (List ℕ) → ℕ → Type 0
IsNotLaid folder file base paths err err' status =
    WouldReplace (codes "image") file err err' status ⊎ IsMisread paths err err' status
    ⊎ HaveNoImage folder file base paths err err' status

-- ---- the image

-- the image of files, whose tables are found
pub record IsFoundOf (base : ℕ) (files : List (List ℕ)) (image : Image) : Type 0 where
  pub laid : IsLaid base files image
  pub tables : List Located
  pub found : IsFoundImage base image.bytes.items tables

-- the files of these paths have this image
abbrev pub IsImageOf : ℕ → List (List ℕ) → Image → Type 0
IsImageOf base paths image = (files : List (List ℕ)) × AreFiles paths files × IsFoundOf base files image

-- the line with the address of the image's RSDP
abbrev pub rsdp_line : ℕ → List ℕ
rsdp_line address = codes "RSDP at " ++ hexadecimal address ++ 10 ∷ []

-- the image went to a file, of which no contract can say what it has, and the line of its RSDP to standard output; or it can't be
-- written
abbrev pub IsSavedTo : Image → List ℕ → Option (List ℕ) → Option (List ℕ) → Option (List ℕ) → Option (List ℕ) → ℕ → Type 0
IsSavedTo image file out out' err err' status =
    (Appends out out' (rsdp_line image.rsdp) × Saved err err' status) ⊎ (Keeps out out' × NotSaved file err err' status)

-- An image goes to standard output if the file is `-`, and then the line of its RSDP to standard error.
abbrev pub IsSaved : Image → List ℕ → Option (List ℕ) → Option (List ℕ) → Option (List ℕ) → Option (List ℕ) → ℕ → Type 0
IsSaved image file out out' err err' status =
    ((file ≡ codes "-") × Appends out out' image.bytes.items × Appends err err' (rsdp_line image.rsdp) × (status ≡ 0))
    ⊎ ((file ≢ codes "-") × IsSavedTo image file out out' err err' status)

-- ---- a folder

-- why a folder has no image: the system says which files it has
abbrev pub HasNoImage : List ℕ → List ℕ → ℕ → Option (List ℕ) → Option (List ℕ) → ℕ → Type 0
HasNoImage folder file base err err' status =
    ((paths : List (List ℕ)) × IsNotLaid folder file base paths err err' status) ⊎ CantBeRead folder err err' status

-- the image of a folder, whose files the system names, is written to a file
pub record IsLaidOut (file : List ℕ) (base : ℕ) (out out' err err' : Option (List ℕ)) (status : ℕ) : Type 0 where
  pub paths : List (List ℕ)
  pub image : Image
  pub of : IsImageOf base paths image
  pub saved : IsSaved image file out out' err err' status

-- what comes of `lay FOLDER FILE BASE`
abbrev pub LaysFolder : List ℕ → List ℕ → ℕ
    → Option (List ℕ) → Option (List ℕ) → Option (List ℕ) → Option (List ℕ) → ℕ → Type 0
LaysFolder folder file base out out' err err' status =
    IsLaidOut file base out out' err err' status ⊎ (HasNoImage folder file base err err' status × Keeps out out')
