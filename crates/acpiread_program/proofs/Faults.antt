use Rattle.std.proofs.Common.{◌≡◌, ℕ, List, refl, subst, inr}
use Rattle.std.specs.Prelude.{Result, Ok, Err, IfErr, IsErrAnd}
use Rattle.acpi_base.specs.Table.{IsTrueTable}
use Rattle.acpi_read.specs.Pieces.{IsPieceFault}
use Rattle.acpi_term.specs.declared.read_error.ReadError.{ReadError}
use Rattle.acpi_term.specs.declared.read_error.ReadError.TheVariants.{Memory}
use Rattle.acpiread_program.specs.declared.fault.Fault.{Fault}
use Rattle.acpiread_program.specs.declared.fault.Fault.TheVariants.{Usage, RefusedAt, Refused}
use Rattle.acpiread_program.specs.Fault.{IsRefusal, IsRefusalAfter}
use Rattle.acpiread_program.specs.Report.{IsHeaderFault, IsTableFault, IsTermsFault}

-- Memory is told the same of all bytes
memory_after : (start : ℕ) (fault : Fault) → IsRefusal Memory fault → IsRefusalAfter start Memory fault
memory_after start Usage h = h
memory_after start (RefusedAt offset kind) h = cc (h.0)
memory_after start (Refused kind) h = h

pub memory : (arity : List ℕ → ℕ) (start : ℕ) (bytes : List ℕ) (fault : Fault) → IsRefusal Memory fault → IsTermsFault arity start bytes fault
memory arity start bytes fault h = record { error = Memory; refusal = memory_after start fault h; cause = tt }

pub header_memory : (bytes : List ℕ) (fault : Fault) → IsRefusal Memory fault → IsHeaderFault bytes fault
header_memory bytes fault h = record { error = Memory; refusal = h; cause = λ other. absurd (other refl) }

-- a table whose structures aren't found
pub by_structures : {T : Type 0} (r : Result T Fault) (error : ReadError) (table bytes : List ℕ) → table ≡ bytes → IsTrueTable bytes → IsPieceFault error table
    → IsErrAnd r (IsRefusal error) → IfErr r (IsTableFault bytes)
by_structures (Ok x) error table bytes same is fault refusal = tt
by_structures (Err f) error table bytes same is fault refusal =
    inr (record { is_table = is; error = error; refusal = refusal; cause = subst (λ (b : List ℕ). IsPieceFault error b) same fault })
