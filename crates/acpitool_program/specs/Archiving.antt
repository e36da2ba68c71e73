-- The archive of the tables of a folder.
use Rattle.std.specs.Prelude.{◌≡◌, ◌⊎◌, ◌&&◌, ℕ, Bool, true, false, if◌then◌else◌, List, [], ◌∷◌, ◌++◌, map, codes}
use Rattle.std.specs.Prelude.{Option, Some, None}
use Rattle.std.specs.Option.{is_none, option_to_list}
use Rattle.std.specs.Io.KnownBytes.{Keeps, Appends}
use Rattle.acpi_cpio.specs.Archive.{file_entry, first_misfit, tables_archive}
use Rattle.acpi_forms.specs.Kind.{kind_of}
use Rattle.acpi_make.specs.declared.file_kind.FileKind.{FileKind}
use Rattle.acpi_make.specs.declared.file_kind.FileKind.TheVariants.{Rsdp, Facs, Cdat, S3pt, Table}
use Rattle.acpitool_program.specs.Another.{another_of}
use Rattle.acpitool_program.specs.Command.{has}
use Rattle.acpitool_program.specs.Fault.{line_of}
use Rattle.acpitool_program.specs.Headed.{IsHeaded, IsNoTable}
use Rattle.acpitool_program.specs.Listing.{NotRead}
use Rattle.acpitool_program.specs.Making.{IsWritten}
use Rattle.acpitool_program.specs.Replaced.{WouldReplace}
use Rattle.acpitool_program.specs.declared.fault.Fault.{Fault}

-- the name of a file: what follows the last slash of its path
abbrev pub name_of : List ℕ → List ℕ
name_of [] = []
name_of (c ∷ path) = if has 47 (c ∷ path) then name_of path else c ∷ path

-- whether Linux takes no table of a kind from its initrd
abbrev pub leaves_out : FileKind → Bool
leaves_out Rsdp = true
leaves_out Facs = true
leaves_out Cdat = false
leaves_out S3pt = false
leaves_out Table = false

-- whether bytes are left out: they are such a table, and no dump or text
unfoldable pub is_left_out : List ℕ → Bool
is_left_out bytes = is_none (another_of bytes) && leaves_out (kind_of bytes)

-- the line of such a file
abbrev pub left_out_line : List ℕ → List ℕ
left_out_line path = path ++ codes ": note: left out, as Linux takes no RSDP and no FACS from an initrd\n"

-- the bytes of a file of this path are a table with the standard header: its name and its bytes
pub record IsTableOf (path bytes : List ℕ) (table : List ℕ × List ℕ) (err err' : Option (List ℕ)) : Type 0 where
  pub taken : is_left_out bytes ≡ false
  pub are : table ≡ (name_of path, bytes)
  pub is : IsHeaded bytes
  pub silent : Keeps err err'

-- the file is left out, and a line says so
pub record IsLeftOut (path bytes : List ℕ) (err err' : Option (List ℕ)) : Type 0 where
  pub left_out : is_left_out bytes ≡ true
  pub told : Appends err err' (left_out_line path)

abbrev pub HasTable : List ℕ → List ℕ → Option (List ℕ × List ℕ) → Option (List ℕ) → Option (List ℕ) → Type 0
HasTable path bytes (Some table) err err' = IsTableOf path bytes table err err'
HasTable path bytes None err err' = IsLeftOut path bytes err err'

-- what comes of a file that has a table or is left out: the system says which bytes it has
abbrev pub IsRead : List ℕ → Option (List ℕ × List ℕ) → Option (List ℕ) → Option (List ℕ) → Type 0
IsRead path table err err' = (bytes : List ℕ) × HasTable path bytes table err err'

-- that of a file, and then of further ones
pub record ReadThen (path : List ℕ) (Rest : List (List ℕ × List ℕ) → Option (List ℕ) → Option (List ℕ) → Type 0)
    (tables : List (List ℕ × List ℕ)) (err err' : Option (List ℕ)) : Type 0 where
  pub first : Option (List ℕ × List ℕ)
  pub rest : List (List ℕ × List ℕ)
  pub between : Option (List ℕ)
  pub one : IsRead path first err between
  pub others : Rest rest between err'
  pub are : tables ≡ option_to_list first ++ rest

-- these are the tables of the files, and each of the other files has a line
abbrev pub AreRead : List (List ℕ) → List (List ℕ × List ℕ) → Option (List ℕ) → Option (List ℕ) → Type 0
AreRead [] tables err err' = (tables ≡ []) × Keeps err err'
AreRead (path ∷ paths) tables err err' = ReadThen path (AreRead paths) tables err err'

-- the bytes of a file are no table, and a line says why
pub record HasNoTable (path bytes : List ℕ) (err err' : Option (List ℕ)) (status : ℕ) : Type 0 where
  pub taken : is_left_out bytes ≡ false
  pub fault : Fault
  pub cause : IsNoTable bytes fault
  pub complained : Appends err err' (path ++ codes ": " ++ line_of fault ++ 10 ∷ [])
  pub is : status ≡ 1

-- a file can't be read, and a line says why
pub record CantBeRead (path : List ℕ) (err err' : Option (List ℕ)) (status : ℕ) : Type 0 where
  pub why : List ℕ
  pub complained : Appends err err' (path ++ codes ": " ++ why ++ 10 ∷ [])
  pub is : status ≡ 2

abbrev pub IsRefused : List ℕ → Option (List ℕ) → Option (List ℕ) → ℕ → Type 0
IsRefused path err err' status = ((bytes : List ℕ) × HasNoTable path bytes err err' status) ⊎ CantBeRead path err err' status

-- one of the files is refused: the first, as no more of them is read
pub record AreRefused (paths : List (List ℕ)) (err err' : Option (List ℕ)) (status : ℕ) : Type 0 where
  pub before : List (List ℕ)
  pub tables : List (List ℕ × List ℕ)
  pub path : List ℕ
  pub after : List (List ℕ)
  pub between : Option (List ℕ)
  pub are : paths ≡ before ++ path ∷ after
  pub fine : AreRead before tables err between
  pub refused : IsRefused path between err' status

-- the tables don't fit an archive, and a line says so
pub record DontFit (tables : List (List ℕ × List ℕ)) (file : List ℕ)
    (out out' err err' : Option (List ℕ)) (status : ℕ) : Type 0 where
  pub misfit : ℕ
  pub first : first_misfit 3 (map file_entry tables) ≡ Some misfit
  pub complained : Appends err err' (file ++ codes ": " ++ codes "too large for an archive" ++ 10 ∷ [])
  pub silent : Keeps out out'
  pub is : status ≡ 1

-- the archive of the tables of files was written to a file, or they don't fit one
pub record AreArchived (paths : List (List ℕ)) (file : List ℕ) (out out' err err' : Option (List ℕ)) (status : ℕ) : Type 0 where
  pub tables : List (List ℕ × List ℕ)
  pub between : Option (List ℕ)
  pub are : AreRead paths tables err between
  pub written :
      IsWritten (tables_archive tables) file out out' between err' status ⊎ DontFit tables file out out' between err' status

-- what comes of the files of a folder
abbrev pub ArchivesFiles : List (List ℕ) → List ℕ
    → Option (List ℕ) → Option (List ℕ) → Option (List ℕ) → Option (List ℕ) → ℕ → Type 0
ArchivesFiles paths file out out' err err' status =
    AreArchived paths file out out' err err' status
    ⊎ (AreRefused paths err err' status × Keeps out out')
    ⊎ (WouldReplace (codes "archive") file err err' status × Keeps out out')

-- what comes of `cpio FOLDER FILE`: the system says which files the folder has
abbrev pub Archives : List ℕ → List ℕ → Option (List ℕ) → Option (List ℕ) → Option (List ℕ) → Option (List ℕ) → ℕ → Type 0
Archives folder file out out' err err' status =
    ((paths : List (List ℕ)) × ArchivesFiles paths file out out' err err' status) ⊎ NotRead folder out out' err err' status
