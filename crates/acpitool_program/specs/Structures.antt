-- What is wrong with the structures of a table.
use Rattle.std.specs.Prelude.{◌≡◌, ◌≢◌, ◌⊎◌, ℕ, zero, suc, ◌+◌, List, [], ◌∷◌, length, drop, Option, Some, None}
use Rattle.acpi_base.specs.FurtherWalk.{AreStructuresOf}
use Rattle.acpi_base.specs.declared.walk.Sizes.{Sizes}
use Rattle.acpi_base.specs.declared.walk.Walk.{Walk}
use Rattle.acpi_make.specs.declared.file_kind.FileKind.{FileKind}
use Rattle.acpi_make.specs.declared.file_kind.FileKind.TheVariants.{Rsdp, Facs, Cdat, S3pt, Table}
use Rattle.acpi_read.specs.Pieces.{IsStructureFault}
use Rattle.acpi_term.specs.declared.read_error.ReadError.{ReadError}
use Rattle.acpi_term.specs.declared.read_error.ReadError.TheVariants.{Memory, Structure}
use Rattle.acpitool_program.specs.Fault.{IsFaultOf}
use Rattle.acpi_forms.specs.Kind.{kind_of}
use Rattle.acpi_forms.specs.Walks.{cdat_walk, s3pt_walk}
use Rattle.acpi_text.specs.Size.{front_size}
use Rattle.acpitool_program.specs.Text.{IsKind, IsTextFault}
use Rattle.acpitool_program.specs.declared.fault.Fault.{Fault}

-- the table has no structures by the walk of its signature, and a fault says why
pub record IsBroken (bytes : List ℕ) (fault : Fault) : Type 0 where
  pub error : ReadError
  pub no_memory : error ≢ Memory
  pub cause : IsStructureFault error bytes
  pub says : IsFaultOf Table error fault

-- the table has structures, or none if its signature has no walk; or a fault says why they can't be found
abbrev pub HasOrBroken : List ℕ → Option Fault → Type 0
HasOrBroken bytes None = (pieces : List (List ℕ)) × AreStructuresOf bytes pieces
HasOrBroken bytes (Some fault) = IsBroken bytes fault

-- what is broken at an offset: nothing there if a structure has a size, and what is after it
abbrev pub broken_or : Option ℕ → (ℕ → Option ℕ) → ℕ → Option ℕ
broken_or (Some size) others at = others size
broken_or None others at = Some at

-- Of at most n structures that stand one after another from an offset on, where the first is that isn't as long as it says. Each
-- has a byte at least.
abbrev pub broken_at : ℕ → Sizes → ℕ → List ℕ → Option ℕ
broken_at zero sizes at bytes = None
broken_at (suc n) sizes at [] = None
broken_at (suc n) sizes at (b ∷ bytes) =
    broken_or (front_size sizes (b ∷ bytes)) (λ size. broken_at n sizes (at + size) (drop size (b ∷ bytes))) at

-- a fault says where a structure is that isn't as long as it says
abbrev pub SaysBroken : FileKind → Option ℕ → Option Fault → Type 0
SaysBroken kind None None = Unit {0}
SaysBroken kind (Some at) (Some fault) = IsFaultOf kind (Structure at) fault
SaysBroken kind at found = ⊥

-- the first structure of a table without a standard header that isn't as long as it says
abbrev pub HasBroken : FileKind → Walk → List ℕ → Option Fault → Type 0
HasBroken kind walk bytes found =
    let rest = drop walk.start bytes in
    SaysBroken kind (broken_at (length rest) walk.sizes walk.start rest) found

-- a pointer and a control structure have no structures
abbrev pub HasFault : FileKind → List ℕ → Option Fault → Type 0
HasFault Rsdp bytes found = found ≡ None
HasFault Facs bytes found = found ≡ None
HasFault Cdat bytes found = HasBroken Cdat cdat_walk bytes found
HasFault S3pt bytes found = HasBroken S3pt s3pt_walk bytes found
HasFault Table bytes found = HasOrBroken bytes found

-- bytes are what their signature says, and a table has its structures; or a fault says what is wrong
abbrev pub IsSoundOr : List ℕ → Option Fault → Type 0
IsSoundOr bytes None = IsKind (kind_of bytes) bytes × HasFault (kind_of bytes) bytes None
IsSoundOr bytes (Some fault) = IsTextFault bytes fault ⊎ HasFault (kind_of bytes) bytes (Some fault)
