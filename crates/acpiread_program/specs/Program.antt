-- The results of a run of the program.
use Rattle.std.specs.Prelude.{◌≡◌, ◌⊎◌, ℕ, List, [], ◌∷◌, ◌++◌, Option}
use Rattle.std.specs.Io.KnownBytes.{Keeps, Appends}
use Rattle.acpi_term.specs.Arity.{arity}
use Rattle.acpiread_program.specs.declared.command.Command.{Command}
use Rattle.acpiread_program.specs.declared.command.Command.TheVariants.{Table, Aml, Dsdt}
use Rattle.acpiread_program.specs.declared.fault.Fault.{Fault}
use Rattle.acpiread_program.specs.Command.{Asks, IsNoCommand}
use Rattle.acpiread_program.specs.Fault.{status_of, line_of, IsUsageWhere}
use Rattle.acpiread_program.specs.Report.{IsTableReport, IsAmlReport, IsDsdtReport, IsTableFault, IsAmlFault, IsDsdtFault}

-- the text is the report of these bytes for the command
abbrev pub IsReportOf : Command → List ℕ → List ℕ → Type 0
IsReportOf (Table file) bytes text = IsTableReport bytes text
IsReportOf (Aml file arities) bytes text = IsAmlReport (arity arities) bytes text
IsReportOf (Dsdt file arities) bytes text = IsDsdtReport (arity arities) bytes text

-- the fault is one of these bytes for the command
abbrev pub IsFaultOf : Command → List ℕ → Fault → Type 0
IsFaultOf (Table file) bytes fault = IsTableFault bytes fault
IsFaultOf (Aml file arities) bytes fault = IsAmlFault (arity arities) bytes fault
IsFaultOf (Dsdt file arities) bytes fault = IsDsdtFault (arity arities) bytes fault

-- for some bytes, the text is the report that the words ask for
pub record IsReport (words : List (List ℕ)) (text : List ℕ) : Type 0 where
  pub command : Command
  pub asked : Asks words command
  pub bytes : List ℕ
  pub report : IsReportOf command bytes text

-- for some bytes, the fault is one of the command in the words
pub record IsFailure (words : List (List ℕ)) (fault : Fault) : Type 0 where
  pub command : Command
  pub asked : Asks words command
  pub bytes : List ℕ
  pub fails : IsFaultOf command bytes fault

-- The fault of a run without a report: `Usage`, memory, or a fault of bytes. If the words are no command, it is `Usage`, unless
-- memory ran out.
pub record IsToldFor (words : List (List ℕ)) (fault : Fault) : Type 0 where
  pub cause : IsUsageWhere (Unit {0}) fault ⊎ IsFailure words fault
  pub asked : IsNoCommand words → IsUsageWhere (Unit {0}) fault

-- status 0: the text went to standard output, and nothing to standard error
pub record Printed (text : List ℕ) (out out' err err' : Option (List ℕ)) (status : ℕ) : Type 0 where
  pub is : status ≡ 0
  pub went : Appends out out' text
  pub silent : Keeps err err'

-- the fault's status, 1 or 2: its line went to standard error, and nothing to standard output
pub record Told (fault : Fault) (out out' err err' : Option (List ℕ)) (status : ℕ) : Type 0 where
  pub is : status ≡ status_of fault
  pub went : Appends err err' (line_of fault ++ 10 ∷ [])
  pub silent : Keeps out out'

-- the report that the words ask for was printed, or the line of a fault
abbrev pub Ended : List (List ℕ) → Option (List ℕ) → Option (List ℕ) → Option (List ℕ) → Option (List ℕ) → ℕ → Type 0
Ended words out out' err err' status =
    ((text : List ℕ) × IsReport words text × Printed text out out' err err' status)
    ⊎ ((fault : Fault) × IsToldFor words fault × Told fault out out' err err' status)

-- The run ended as one on some words does; or the words couldn't be read, and usage or memory was reported; or output couldn't be
-- written, and the status is 1.
abbrev pub Started : Option (List ℕ) → Option (List ℕ) → Option (List ℕ) → Option (List ℕ) → ℕ → Type 0
Started out out' err err' status =
    ((words : List (List ℕ)) × Ended words out out' err err' status)
    ⊎ ((fault : Fault) × IsUsageWhere (Unit {0}) fault × Told fault out out' err err' status)
    ⊎ (status ≡ 1)
