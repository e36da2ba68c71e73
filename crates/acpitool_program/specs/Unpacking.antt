-- The files of a folder to which the tables of an image or of a dump are written.
use Rattle.std.specs.Prelude.{◌≡◌, ◌⊎◌, ℕ, zero, suc, ◌+◌, max, nat_eq, Bool, true, false, if◌then◌else◌, List, []}
use Rattle.std.specs.Prelude.{◌∷◌, ◌++◌}
use Rattle.std.specs.Prelude.{Option, Ok, Err, length, map, codes, slice_index_or}
use Rattle.std.specs.Fmt.{decimal}
use Rattle.std.specs.List.{starts_with}
use Rattle.std.specs.Str.{bytes_eq}
use Rattle.std.specs.Io.KnownBytes.{Keeps, Appends}
use Rattle.acpi_dump.specs.Dump.{is_dump, tables_of}
use Rattle.acpi_dump.specs.Fault.{text_of}
use Rattle.acpi_dump.specs.declared.fault.DumpFault.{DumpFault}
use Rattle.acpi_layout.specs.Addresses.{image_at}
use Rattle.acpi_layout.specs.Found.{contents}
use Rattle.acpi_layout.specs.declared.located.Located.{Located}
use Rattle.acpi_tree.specs.Image.{letter}
use Rattle.acpitool_program.specs.Image.{IsFoundImage}
use Rattle.acpitool_program.specs.Listing.{NotListed, NotRead}

-- ---- names

-- Four letters for a table: those of its signature, and RSDP for an RSDP. Bytes that aren't there are underscores.
abbrev pub stem : List ℕ → List ℕ
stem table =
    if starts_with nat_eq table (codes "RSD ") then codes "RSDP"
    else map (λ i. letter (slice_index_or table i 95)) (0 ∷ 1 ∷ 2 ∷ 3 ∷ [])

-- how many of these tables have these letters
abbrev pub count : List ℕ → List (List ℕ) → ℕ
count letters [] = 0
count letters (table ∷ tables) = (if bytes_eq (stem table) letters then 1 else 0) + count letters tables

-- the number in a name: none for the first table with its letters
abbrev pub number : ℕ → List ℕ
number zero = []
number (suc n) = decimal (suc n)

-- the path of the file of a table, after these in the same image or dump
abbrev pub path_of : List ℕ → List (List ℕ) → List ℕ → List ℕ
path_of folder earlier table =
    folder ++ codes "/" ++ stem table ++ number (count (stem table) earlier) ++ codes ".aml"

-- ---- files

-- the line of a file that was written
abbrev pub file_line : List ℕ → List ℕ → List ℕ
file_line path table = path ++ codes " length " ++ decimal (length table) ++ 10 ∷ []

-- the file was written
pub record Wrote (path table : List ℕ) (out out' err err' : Option (List ℕ)) (status : ℕ) : Type 0 where
  pub wrote : Appends out out' (file_line path table)
  pub silent : Keeps err err'
  pub is : status ≡ 0

-- a file or a folder can't be made, and a line says why
pub record NotMade (path : List ℕ) (out out' err err' : Option (List ℕ)) (status : ℕ) : Type 0 where
  pub why : List ℕ
  pub complained : Appends err err' (path ++ codes ": " ++ why ++ 10 ∷ [])
  pub silent : Keeps out out'
  pub is : status ≡ 1

-- what comes of a table; no contract can say what the file has
abbrev pub IsUnpacked : List ℕ → List ℕ → Option (List ℕ) → Option (List ℕ) → Option (List ℕ) → Option (List ℕ) → ℕ → Type 0
IsUnpacked path table out out' err err' status =
    Wrote path table out out' err err' status ⊎ NotMade path out out' err err' status

-- what is printed of a table, and then of further ones
pub record Then (First : Option (List ℕ) → Option (List ℕ) → ℕ → Type 0) (Rest : Option (List ℕ) → Option (List ℕ) → ℕ → Type 0)
    (status : ℕ) : Type 0 where
  pub out : Option (List ℕ)
  pub err : Option (List ℕ)
  pub first : ℕ
  pub rest : ℕ
  pub one : First out err first
  pub others : Rest out err rest
  pub is : status ≡ max first rest

-- the tables after these, one after another; the status is the greatest
abbrev pub AreUnpacked : List ℕ → List (List ℕ) → List (List ℕ)
    → Option (List ℕ) → Option (List ℕ) → Option (List ℕ) → Option (List ℕ) → ℕ → Type 0
AreUnpacked folder earlier [] out out' err err' status = Keeps out out' × Keeps err err' × (status ≡ 0)
AreUnpacked folder earlier (table ∷ tables) out out' err err' status =
    Then (λ o e s. IsUnpacked (path_of folder earlier table) table out o err e s)
    (λ o e s. AreUnpacked folder (earlier ++ table ∷ []) tables o out' e err' s)
    status

-- a folder that can't be made, or the files of tables
abbrev pub AreFiles : List ℕ → List (List ℕ) → Option (List ℕ) → Option (List ℕ) → Option (List ℕ) → Option (List ℕ) → ℕ → Type 0
AreFiles folder tables out out' err err' status =
    NotMade folder out out' err err' status ⊎ AreUnpacked folder [] tables out out' err err' status

-- ---- of which bytes

-- the tables of a dump, or a line that can't be read
pub record BrokenDump (name dump : List ℕ) (out out' err err' : Option (List ℕ)) (status : ℕ) : Type 0 where
  pub fault : DumpFault
  pub cause : tables_of dump ≡ Err fault
  pub complained : Appends err err' (name ++ codes ": " ++ text_of fault ++ 10 ∷ [])
  pub silent : Keeps out out'
  pub is : status ≡ 1

abbrev pub UnpacksDump : List ℕ → List ℕ → List ℕ
    → Option (List ℕ) → Option (List ℕ) → Option (List ℕ) → Option (List ℕ) → ℕ → Type 0
UnpacksDump name folder dump out out' err err' status =
    ((tables : List (List ℕ × List ℕ)) × (tables_of dump ≡ Ok tables)
    × AreFiles folder (map (λ table. table.1) tables) out out' err err' status)
    ⊎ BrokenDump name dump out out' err err' status

-- the tables of an image from a base on, or why it is none
abbrev pub UnpacksImage : List ℕ → List ℕ → ℕ → List ℕ
    → Option (List ℕ) → Option (List ℕ) → Option (List ℕ) → Option (List ℕ) → ℕ → Type 0
UnpacksImage name folder base bytes out out' err err' status =
    ((tables : List Located) × IsFoundImage base bytes tables
    × AreFiles folder (map (contents (image_at base bytes)) tables) out out' err err' status)
    ⊎ NotListed name base bytes out out' err err' status

abbrev pub UnpacksBy : Bool → List ℕ → List ℕ → ℕ → List ℕ
    → Option (List ℕ) → Option (List ℕ) → Option (List ℕ) → Option (List ℕ) → ℕ → Type 0
UnpacksBy true name folder base bytes out out' err err' status = UnpacksDump name folder bytes out out' err err' status
UnpacksBy false name folder base bytes out out' err err' status = UnpacksImage name folder base bytes out out' err err' status

-- what comes of `unpack FILE FOLDER BASE`: the system says which bytes the file has
abbrev pub Unpacks : List ℕ → List ℕ → ℕ → Option (List ℕ) → Option (List ℕ) → Option (List ℕ) → Option (List ℕ) → ℕ → Type 0
Unpacks name folder base out out' err err' status =
    ((bytes : List ℕ) × UnpacksBy (is_dump bytes) name folder base bytes out out' err err' status)
    ⊎ NotRead name out out' err err' status
