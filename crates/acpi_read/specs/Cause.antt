-- The results of the code's reading functions, compared with the reading functions on lists.
use Rattle.std.specs.Prelude.{◌≡◌, ℕ, ◌≤◌, Option, Some, None, Result, Ok, Err}
use Rattle.acpi_term.specs.declared.read_error.ReadError.{ReadError}
use Rattle.acpi_term.specs.declared.read_error.ReadError.TheVariants as errors
use Rattle.acpi_term.specs.Reading.{Fault, Deep, Bad}
use Rattle.acpi_read.specs.declared.terms.cause.Cause.{Cause}
use Rattle.acpi_read.specs.declared.terms.cause.Cause.TheVariants as causes

-- `Memory` says nothing about the bytes
abbrev pub cause_kind : Cause → Option Fault
cause_kind causes.Memory = None
cause_kind _ = Some Bad

abbrev pub error_kind : ReadError → Option Fault
error_kind errors.Memory = None
error_kind (errors.TooDeep offset) = Some Deep
error_kind _ = Some Bad

abbrev pub FailsBy : {Y : Type 0} → Option Fault → Result Y Fault → Type 0
FailsBy None read = Unit {0}
FailsBy (Some f) read = read ≡ Err f

-- the result, as its view, is that of the reading function on lists, unless memory ran out
abbrev pub Gives : {X Y : Type 0} → (X → Y) → Result X Cause → Result Y Fault → Type 0
Gives view (Ok x) read = read ≡ Ok (view x)
Gives view (Err e) read = FailsBy (cause_kind e) read

-- the same for an error with an offset
abbrev pub Answers : {X Y : Type 0} → (X → Y) → Result X ReadError → Result Y Fault → Type 0
Answers view (Ok x) read = read ≡ Ok (view x)
Answers view (Err e) read = FailsBy (error_kind e) read

-- an error of reading terms, with an offset up to the end
abbrev pub IsPlaced : ℕ → ReadError → Type 0
IsPlaced end errors.Memory = Unit {0}
IsPlaced end (errors.Truncated offset) = offset ≤ end
IsPlaced end (errors.Opcode offset) = offset ≤ end
IsPlaced end (errors.Length offset) = offset ≤ end
IsPlaced end (errors.Count offset) = offset ≤ end
IsPlaced end (errors.Flags offset) = offset ≤ end
IsPlaced end (errors.Text offset) = offset ≤ end
IsPlaced end (errors.TooDeep offset) = offset ≤ end
IsPlaced end _ = ⊥
