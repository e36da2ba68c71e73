-- Reports of bytes.
use Rattle.std.specs.Prelude.{◌≡◌, ◌≢◌, ◌⊎◌, ℕ, ◌-◌, ◌^◌, ◌<◌, ◌≤◌, List, ◌++◌, length, drop}
use Rattle.acpi_term.specs.declared.read_error.ReadError.{ReadError}
use Rattle.acpi_term.specs.declared.read_error.ReadError.TheVariants.{Memory, TableLength}
use Rattle.acpi_term.specs.Tree.{Terms}
use Rattle.acpi_base.specs.Table.{IsTrueTable}
use Rattle.acpi_read.specs.Table.{IsFault}
use Rattle.acpi_read.specs.Terms.{AreRead, IsUnread}
use Rattle.acpi_read.specs.Pieces.{IsPieceFault}
use Rattle.acpi_read.specs.Report.{header_line, ReportsTable}
use Rattle.acpi_read.specs.Lines.{lines}
use Rattle.acpiread_program.specs.declared.fault.Fault.{Fault}
use Rattle.acpiread_program.specs.Fault.{IsRefusal, IsRefusalAfter}

-- the bytes are a table, and the text is the first line of its report
pub record IsHeaderReport (bytes text : List ℕ) : Type 0 where
  pub is_table : IsTrueTable bytes
  pub is : text ≡ header_line bytes

-- the bytes are a table whose structures can be found, and the text is its report
pub record IsTableReport (bytes text : List ℕ) : Type 0 where
  pub is_table : IsTrueTable bytes
  pub report : ReportsTable bytes text

-- the bytes aren't more than a table can have, they spell terms, and the text is the report of these terms
pub record IsAmlReport (arity : List ℕ → ℕ) (bytes text : List ℕ) : Type 0 where
  pub fits : length bytes < 2 ^ 32
  pub terms : Terms
  pub read : AreRead arity bytes terms
  pub is : text ≡ lines 0 terms

-- The bytes are a table with terms after its header. The text is the first line of the table's report, followed by the report of
-- the terms.
pub record IsDsdtReport (arity : List ℕ → ℕ) (bytes text : List ℕ) : Type 0 where
  pub is_table : IsTrueTable bytes
  pub terms : Terms
  pub read : AreRead arity (drop 36 bytes) terms
  pub is : text ≡ header_line bytes ++ lines 0 terms

-- the fault is one of the header of a table, its length or its sum, or memory ran out
pub record IsHeaderFault (bytes : List ℕ) (fault : Fault) : Type 0 where
  pub error : ReadError
  pub refusal : IsRefusal error fault
  pub cause : error ≢ Memory → IsFault error bytes

-- the bytes are a table, and the fault is one of finding its structures, or memory ran out
pub record IsStructuresFault (bytes : List ℕ) (fault : Fault) : Type 0 where
  pub is_table : IsTrueTable bytes
  pub error : ReadError
  pub refusal : IsRefusal error fault
  pub cause : IsPieceFault error bytes

abbrev pub IsTableFault : List ℕ → Fault → Type 0
IsTableFault bytes fault = IsHeaderFault bytes fault ⊎ IsStructuresFault bytes fault

-- the fault is one of reading the bytes from an offset on as terms, or memory ran out
pub record IsTermsFault (arity : List ℕ → ℕ) (start : ℕ) (bytes : List ℕ) (fault : Fault) : Type 0 where
  pub error : ReadError
  pub refusal : IsRefusalAfter start error fault
  pub cause : IsUnread arity (drop start bytes) error

-- there are more bytes than a table can have, and the fault has the offset of the first that is too many
pub record IsTooLong (bytes : List ℕ) (fault : Fault) : Type 0 where
  pub more : 2 ^ 32 ≤ length bytes
  pub refusal : IsRefusal (TableLength (2 ^ 32 - 1)) fault

abbrev pub IsAmlFault : (List ℕ → ℕ) → List ℕ → Fault → Type 0
IsAmlFault arity bytes fault = IsTermsFault arity 0 bytes fault ⊎ IsTooLong bytes fault

-- the bytes are a table, and the fault is one of the terms after its header
pub record IsBodyFault (arity : List ℕ → ℕ) (bytes : List ℕ) (fault : Fault) : Type 0 where
  pub is_table : IsTrueTable bytes
  pub terms : IsTermsFault arity 36 bytes fault

abbrev pub IsDsdtFault : (List ℕ → ℕ) → List ℕ → Fault → Type 0
IsDsdtFault arity bytes fault = IsHeaderFault bytes fault ⊎ IsBodyFault arity bytes fault
