-- The text of a file's bytes.
use Rattle.std.specs.Prelude.{◌≡◌, ◌≢◌, ℕ, Bool, true, false, List, []}
use Rattle.acpi_base.specs.Table.{IsTrueTable}
use Rattle.acpi_forms.specs.File.{IsFileText}
use Rattle.acpi_forms.specs.Kind.{kind_of}
use Rattle.acpi_make.specs.declared.file_kind.FileKind.{FileKind}
use Rattle.acpi_make.specs.declared.file_kind.FileKind.TheVariants.{Rsdp, Facs, Cdat, S3pt, Table}
use Rattle.acpi_term.specs.declared.read_error.ReadError.{ReadError}
use Rattle.acpi_term.specs.declared.read_error.ReadError.TheVariants.{Memory}
use Rattle.acpitool_program.specs.Check.{IsPointer, IsControl, IsCoherent, IsPerformance}
use Rattle.acpitool_program.specs.Fault.{IsFaultIn}
use Rattle.acpitool_program.specs.Offsets.{without_offsets}
use Rattle.acpitool_program.specs.declared.fault.Fault.{Fault}

-- bytes are what their signature says
abbrev pub IsKind : FileKind → List ℕ → Type 0
IsKind Rsdp bytes = IsPointer bytes
IsKind Facs bytes = IsControl bytes
IsKind Cdat bytes = IsCoherent bytes
IsKind S3pt bytes = IsPerformance bytes
IsKind Table bytes = IsTrueTable bytes

-- bytes are what their signature says, and a text shows them
pub record IsText (bytes text : List ℕ) : Type 0 where
  pub kind : IsKind (kind_of bytes) bytes
  pub is : IsFileText bytes text

-- the text, with or without the offsets of its lines
abbrev pub IsTextAs : Bool → List ℕ → List ℕ → Type 0
IsTextAs false bytes text = IsText bytes text
IsTextAs true bytes text = (whole : List ℕ) × IsText bytes whole × (text ≡ without_offsets [] whole)

-- bytes aren't what their signature says, and a fault says why, or memory ran out
pub record IsTextFault (bytes : List ℕ) (fault : Fault) : Type 0 where
  pub error : ReadError
  pub says : IsFaultIn (kind_of bytes) error bytes fault
  pub cause : error ≢ Memory → ¬ IsKind (kind_of bytes) bytes
