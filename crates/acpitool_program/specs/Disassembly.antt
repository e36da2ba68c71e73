-- What is printed of a definition block: its ASL, or the objects that it makes.
use Rattle.std.specs.Prelude.{◌≡◌, ◌≢◌, ◌⊎◌, ℕ, true, false, List, ◌∷◌, [], ◌++◌, Option, Some, codes, drop}
use Rattle.std.specs.Io.KnownBytes.{Keeps, Appends}
use Rattle.acpi_asl.specs.Block.{has_terms, IsBlockText, IsTextInPart}
use Rattle.acpi_terms_text.specs.Block.{AreNoTerms}
use Rattle.acpi_asl.specs.declared.block.BlockText.{BlockText}
use Rattle.acpi_terms_text.specs.Objects.{Callee, AddObjectsIn}
use Rattle.acpi_term.specs.declared.read_error.ReadError.{ReadError}
use Rattle.acpi_term.specs.declared.read_error.ReadError.TheVariants.{Memory}
use Rattle.acpitool_program.specs.Fault.{line_of, Says, IsFaultAfter}
use Rattle.acpitool_program.specs.Headed.{IsNoTable}
use Rattle.acpitool_program.specs.Listing.{NotRead}
use Rattle.acpitool_program.specs.declared.fault.Fault.{Fault}

-- they are a table with another signature
pub record IsNoBlock (bytes : List ℕ) (fault : Fault) : Type 0 where
  pub none : has_terms bytes ≡ false
  pub says : Says (Some 0) (codes "not the signature of a definition block") fault

-- no terms follow the header, and a fault says why
pub record HasNoTerms (stated : List (List ℕ × ℕ)) (further : List Callee) (bytes : List ℕ) (fault : Fault) : Type 0 where
  pub error : ReadError
  pub no_memory : error ≢ Memory
  pub says : IsFaultAfter 36 error fault
  pub cause : AreNoTerms stated further (drop 36 bytes) error

-- why bytes are no definition block
abbrev pub IsNoText : List ℕ → Fault → Type 0
IsNoText bytes fault = IsNoTable bytes fault ⊎ IsNoBlock bytes fault

-- the text of a definition block was printed
pub record IsBlockPrinted (block : BlockText) (stated : List (List ℕ × ℕ)) (further : List Callee) (bytes : List ℕ)
    (out out' err err' : Option (List ℕ)) (status : ℕ) : Type 0 where
  pub text : List ℕ
  pub of : IsBlockText block stated further bytes text
  pub wrote : Appends out out' text
  pub silent : Keeps err err'
  pub is : status ≡ 0

-- the text of what can be read of it was printed, and a line says why that isn't all
pub record IsBlockInPart (block : BlockText) (stated : List (List ℕ × ℕ)) (further : List Callee) (name bytes : List ℕ)
    (out out' err err' : Option (List ℕ)) (status : ℕ) : Type 0 where
  pub text : List ℕ
  pub of : IsTextInPart block stated further bytes text
  pub wrote : Appends out out' text
  pub fault : Fault
  pub cause : HasNoTerms stated further bytes fault
  pub complained : Appends err err' (name ++ codes ": " ++ line_of fault ++ 10 ∷ [])
  pub is : status ≡ 1

-- there is none, and a line says why
pub record IsBlockRefused (name bytes : List ℕ)
    (out out' err err' : Option (List ℕ)) (status : ℕ) : Type 0 where
  pub fault : Fault
  pub cause : IsNoText bytes fault
  pub complained : Appends err err' (name ++ codes ": " ++ line_of fault ++ 10 ∷ [])
  pub silent : Keeps out out'
  pub is : status ≡ 1

-- what comes of the bytes of a file
abbrev pub IsDisassembled : BlockText → List (List ℕ × ℕ) → List Callee → List ℕ → List ℕ
    → Option (List ℕ) → Option (List ℕ) → Option (List ℕ) → Option (List ℕ) → ℕ → Type 0
IsDisassembled block stated further name bytes out out' err err' status =
    IsBlockPrinted block stated further bytes out out' err err' status
    ⊎ IsBlockInPart block stated further name bytes out out' err err' status
    ⊎ IsBlockRefused name bytes out out' err err' status

-- what comes of a file: the system says which bytes it has
abbrev pub DisassemblesFile : BlockText → List (List ℕ × ℕ) → List Callee → List ℕ
    → Option (List ℕ) → Option (List ℕ) → Option (List ℕ) → Option (List ℕ) → ℕ → Type 0
DisassemblesFile block stated further name out out' err err' status =
    ((bytes : List ℕ) × IsDisassembled block stated further name bytes out out' err err' status)
    ⊎ NotRead name out out' err err' status

-- ---- further blocks, whose methods the first one may call

-- the methods of a file's block were added to others
pub record IsFurtherBlock (stated : List (List ℕ × ℕ)) (old new : List Callee) (err err' : Option (List ℕ)) (status : ℕ)
    : Type 0 where
  pub bytes : List ℕ
  pub is_block : has_terms bytes ≡ true
  pub added : AddObjectsIn stated (drop 36 bytes) old new
  pub silent : Keeps err err'
  pub is : status ≡ 0

-- the file has no definition block, or can't be read, and a line says why
pub record IsNoFurtherBlock (name : List ℕ) (err err' : Option (List ℕ)) (status : ℕ) : Type 0 where
  pub why : List ℕ
  pub cause : ((bytes : List ℕ) × (fault : Fault) × IsNoText bytes fault × (why ≡ line_of fault) × (status ≡ 1)) ⊎ (status ≡ 2)
  pub complained : Appends err err' (name ++ codes ": " ++ why ++ 10 ∷ [])

abbrev pub AddsFile : List (List ℕ × ℕ) → List ℕ → List Callee → List Callee → Option (List ℕ) → Option (List ℕ) → ℕ → Type 0
AddsFile stated name old new err err' status =
    IsFurtherBlock stated old new err err' status ⊎ IsNoFurtherBlock name err err' status

-- The methods of each file's block were added, in order, up to the first file that has none.
abbrev pub AddsFiles : List (List ℕ × ℕ) → List (List ℕ) → List Callee → List Callee
    → Option (List ℕ) → Option (List ℕ) → ℕ → Type 0
AddsFiles stated [] old new err err' status = (new ≡ old) × Keeps err err' × (status ≡ 0)
AddsFiles stated (name ∷ names) old new err err' status =
    ((between : List Callee) × (said : Option (List ℕ)) × IsFurtherBlock stated old between err said 0
    × AddsFiles stated names between new said err' status)
    ⊎ IsNoFurtherBlock name err err' status
