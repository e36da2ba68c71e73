-- Tables with the standard header.
use Rattle.std.specs.Prelude.{◌≡◌, ◌≢◌, ◌⊎◌, ℕ, List, Option, Some, None, codes}
use Rattle.acpi_base.specs.Table.{IsTrueTable}
use Rattle.acpi_forms.specs.Kind.{kind_of}
use Rattle.acpi_make.specs.declared.file_kind.FileKind.{FileKind}
use Rattle.acpi_make.specs.declared.file_kind.FileKind.TheVariants.{Rsdp, Facs, Cdat, S3pt, Table}
use Rattle.acpi_term.specs.declared.read_error.ReadError.{ReadError}
use Rattle.acpi_term.specs.declared.read_error.ReadError.TheVariants.{Memory}
use Rattle.acpitool_program.specs.Another.{another_of}
use Rattle.acpitool_program.specs.Fault.{Says, IsFaultOfAnother, IsFaultIn}
use Rattle.acpitool_program.specs.declared.fault.Fault.{Fault}

-- what is said of bytes of a kind that has no standard header (ACPI 6.5, 5.2.6)
abbrev pub headless : FileKind → Option (List ℕ)
headless Rsdp = Some (codes "an RSDP has no standard header")
headless Facs = Some (codes "a FACS has no standard header")
headless Cdat = Some (codes "a CDAT has no standard header")
headless S3pt = Some (codes "an S3PT has no standard header")
headless Table = None

-- bytes are a table with the standard header
pub record IsHeaded (bytes : List ℕ) : Type 0 where
  pub kind : headless (kind_of bytes) ≡ None
  pub table : IsTrueTable bytes

-- bytes are no dump and no other text, and a fault says these words of them
pub record SaysHeadless (words bytes : List ℕ) (fault : Fault) : Type 0 where
  pub none : another_of bytes ≡ None
  pub says : Says (Some 0) words fault

-- the fault of bytes that have no standard header by their signature, which these words say
abbrev pub IsHeadlessFault : List ℕ → List ℕ → Fault → Type 0
IsHeadlessFault words bytes fault = IsFaultOfAnother bytes fault ⊎ SaysHeadless words bytes fault

-- bytes have no standard header by their signature, and a fault says so
pub record IsHeadless (bytes : List ℕ) (fault : Fault) : Type 0 where
  pub words : List ℕ
  pub kind : headless (kind_of bytes) ≡ Some words
  pub says : IsHeadlessFault words bytes fault

-- they are no table with the standard header, and a fault says why, or memory ran out
pub record IsMisheaded (bytes : List ℕ) (fault : Fault) : Type 0 where
  pub kind : headless (kind_of bytes) ≡ None
  pub error : ReadError
  pub says : IsFaultIn Table error bytes fault
  pub cause : error ≢ Memory → ¬ IsTrueTable bytes

-- why bytes are no table with the standard header
abbrev pub IsNoTable : List ℕ → Fault → Type 0
IsNoTable bytes fault = IsHeadless bytes fault ⊎ IsMisheaded bytes fault
