-- The files by which QEMU hands the tables of a folder to firmware.
use Rattle.std.specs.Prelude.{◌≡◌, ◌≢◌, ◌⊎◌, ℕ, List, [], ◌∷◌, ◌++◌, Option, codes}
use Rattle.std.specs.Io.KnownBytes.{Keeps, Appends}
use Rattle.acpi_layout.specs.declared.lay_fault.LayFault.TheVariants.{Memory}
use Rattle.acpi_loader.specs.Fault.{text_of}
use Rattle.acpi_loader.specs.Loader.{IsLoader, IsLoaderFault}
use Rattle.acpi_loader.specs.declared.fault.LoaderFault.{LoaderFault}
use Rattle.acpi_loader.specs.declared.fault.LoaderFault.TheVariants.{NotLaid, TooLarge}
use Rattle.acpi_loader.specs.declared.loader.Loader.{Loader}
use Rattle.acpitool_program.specs.Archiving.{CantBeRead}
use Rattle.acpitool_program.specs.Laying.{AreFiles, IsMisread, blamed as blamed_by}
use Rattle.acpitool_program.specs.Unpacking.{Wrote, NotMade}

-- ---- why files have no loader

-- what a fault is said of: the file that is a second one of its signature, or else the folder
abbrev pub blamed : List ℕ → List (List ℕ) → LoaderFault → List ℕ
blamed folder paths (NotLaid fault) = blamed_by folder paths fault
blamed folder paths TooLarge = folder

-- the files have no loader, and a line says why
pub record HaveNoLoader (folder : List ℕ) (paths files : List (List ℕ))
    (err err' : Option (List ℕ)) (status : ℕ) : Type 0 where
  pub fault : LoaderFault
  pub no_memory : fault ≢ NotLaid Memory
  pub cause : IsLoaderFault files fault
  pub complained : Appends err err' (blamed folder paths fault ++ codes ": " ++ text_of fault ++ 10 ∷ [])
  pub is : status ≡ 1

-- the files of these paths have this loader
abbrev pub IsLoaderOf : List (List ℕ) → Loader → Type 0
IsLoaderOf paths loader = (files : List (List ℕ)) × AreFiles paths files × IsLoader files loader

-- the files of these paths have none
abbrev pub IsNotLoaded : List ℕ → List (List ℕ) → Option (List ℕ) → Option (List ℕ) → ℕ → Type 0
IsNotLoaded folder paths err err' status =
    IsMisread paths err err' status
    ⊎ ((files : List (List ℕ)) × AreFiles paths files × HaveNoLoader folder paths files err err' status)

-- why a folder has none: the system says which files it has
abbrev pub HasNoLoader : List ℕ → Option (List ℕ) → Option (List ℕ) → ℕ → Type 0
HasNoLoader folder err err' status =
    ((paths : List (List ℕ)) × IsNotLoaded folder paths err err' status) ⊎ CantBeRead folder err err' status

-- ---- folders and files that are made

-- a folder can't be made, and a line says why
pub record HasNoFolder (path : List ℕ) (err err' : Option (List ℕ)) (status : ℕ) : Type 0 where
  pub why : List ℕ
  pub complained : Appends err err' (path ++ codes ": " ++ why ++ 10 ∷ [])
  pub is : status ≡ 1

-- a folder is there, or can't be made
abbrev pub HasFolder : List ℕ → Option (List ℕ) → Option (List ℕ) → ℕ → Type 0
HasFolder path err err' status = ((status ≡ 0) × Keeps err err') ⊎ HasNoFolder path err err' status

-- the folders of the files are there, or one of them can't be made
abbrev pub HasFolders : List ℕ → Option (List ℕ) → Option (List ℕ) → ℕ → Type 0
HasFolders to err err' status =
    ((status ≡ 0) × Keeps err err') ⊎ HasNoFolder to err err' status ⊎ HasNoFolder (to ++ codes "/etc") err err' status
    ⊎ HasNoFolder (to ++ codes "/etc/acpi") err err' status

-- a file was written, and what came of others then
pub record After (path bytes : List ℕ) (Rest : Option (List ℕ) → Option (List ℕ) → ℕ → Type 0)
    (out err : Option (List ℕ)) (status : ℕ) : Type 0 where
  pub out' : Option (List ℕ)
  pub err' : Option (List ℕ)
  pub wrote : Wrote path bytes out out' err err' 0
  pub rest : Rest out' err' status

-- files are written, one after another, up to the first that can't be made; no contract can say what a file has
abbrev pub ArePut : List (List ℕ × List ℕ) → Option (List ℕ) → Option (List ℕ) → Option (List ℕ) → Option (List ℕ) → ℕ → Type 0
ArePut [] out out' err err' status = Keeps out out' × Keeps err err' × (status ≡ 0)
ArePut (file ∷ files) out out' err err' status =
    NotMade file.0 out out' err err' status
    ⊎ After file.0 file.1 (λ o e s. ArePut files o out' e err' s) out err status

-- the files of a loader in a folder: their paths and their bytes
abbrev pub files_of : Loader → List ℕ → List (List ℕ × List ℕ)
files_of loader to =
    (to ++ codes "/etc/acpi/tables", loader.tables.items)
    ∷ (to ++ codes "/etc/acpi/rsdp", loader.rsdp.items)
    ∷ (to ++ codes "/etc/table-loader", loader.script.items)
    ∷ []

abbrev pub IsPut : Loader → List ℕ → Option (List ℕ) → Option (List ℕ) → Option (List ℕ) → Option (List ℕ) → ℕ → Type 0
IsPut loader to out out' err err' status = ArePut (files_of loader to) out out' err err' status

-- a folder that can't be made, or these files
abbrev pub IsPutOut : Loader → List ℕ → Option (List ℕ) → Option (List ℕ) → Option (List ℕ) → Option (List ℕ) → ℕ → Type 0
IsPutOut loader to out out' err err' status =
    ((status ≢ 0) × HasFolders to err err' status × Keeps out out') ⊎ IsPut loader to out out' err err' status

-- ---- a folder

-- the loader of a folder, whose files the system names, is written to another folder
pub record IsLoaded (to : List ℕ) (out out' err err' : Option (List ℕ)) (status : ℕ) : Type 0 where
  pub paths : List (List ℕ)
  pub loader : Loader
  pub of : IsLoaderOf paths loader
  pub put : IsPutOut loader to out out' err err' status

-- what comes of `loader FOLDER OUT`
abbrev pub LoadsFolder : List ℕ → List ℕ → Option (List ℕ) → Option (List ℕ) → Option (List ℕ) → Option (List ℕ) → ℕ → Type 0
LoadsFolder folder to out out' err err' status =
    IsLoaded to out out' err err' status ⊎ (HasNoLoader folder err err' status × Keeps out out')
