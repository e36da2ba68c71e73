-- Texts of tables.
use Rattle.std.specs.Prelude.{◌≡◌, ◌⊎◌, ℕ, List}
use Rattle.acpi_base.specs.Table.{IsTrueTable}
use Rattle.acpi_forms.specs.File.{IsFileText}
use Rattle.acpi_forms.specs.Kind.{kind_of}
use Rattle.acpi_make.specs.declared.file_kind.FileKind.{FileKind}
use Rattle.acpi_make.specs.declared.file_kind.FileKind.TheVariants.{Rsdp, Facs, Cdat, S3pt, Table}
use Rattle.acpi_text.specs.Reading.{bytes_of}
use Rattle.acpi_c_calls.specs.Refused.{by_memory}
use Rattle.acpi_c_calls.specs.Table.{IsTableRefusal}
use Rattle.acpi_c_calls.specs.declared.refused.Refused.{Refused}

-- a table is right; nothing is said of bytes without a standard header
abbrev pub IsShowable : FileKind → List ℕ → Type 0
IsShowable Rsdp bytes = Unit {0}
IsShowable Facs bytes = Unit {0}
IsShowable Cdat bytes = Unit {0}
IsShowable S3pt bytes = Unit {0}
IsShowable Table bytes = IsTrueTable bytes

-- The text shows the bytes, and determines them.
pub record IsText (bytes text : List ℕ) : Type 0 where
  pub showable : IsShowable (kind_of bytes) bytes
  pub is : IsFileText bytes text
  pub determines : bytes_of text ≡ bytes

-- why there is no text: the bytes have no other signature and aren't a table, or memory ran out
abbrev pub IsTextRefusal : List ℕ → Refused → Type 0
IsTextRefusal bytes refused = (refused ≡ by_memory) ⊎ ((kind_of bytes ≡ Table) × IsTableRefusal bytes refused)
