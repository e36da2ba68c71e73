-- The numbers that a text states wrongly.
use Rattle.std.proofs.Common.{◌≡◌, ℕ, List, Result, Ok, Err, IfOk, IfErr, map}
use Rattle.acpi_forms.specs.Makes.{IsMade}
use Rattle.acpi_make.specs.declared.fault.MakeError.TheVariants.{Memory}
use Rattle.acpi_make.specs.declared.make.Made.{Made}
use Rattle.acpi_c_calls.specs.Make.{IsMakeRefusal}
use Rattle.acpi_c_calls.specs.Notes.{note, AreNotes}
use Rattle.acpi_c_calls.specs.Refused.{by_memory}
use Rattle.acpi_c_calls.specs.Results.{seen, IsOutcome}
use Rattle.acpi_c_calls.specs.declared.notes.Note.{Note}
use Rattle.acpi_c_calls.specs.declared.refused.Refused.{Refused}

-- those of the table that a text is made into
pub outcome : {A : Type 0} (view : A → List Note) (result : Result A Refused) (text : List ℕ) (made : Made) → IsMade text (Ok made)
    → IfOk result (λ found. view found ≡ map note made.untrue.items) → IfErr result (λ refused. refused ≡ by_memory)
    → IsOutcome (AreNotes text) (IsMakeRefusal text) (seen view result)
outcome view (Ok found) text made is ok err = record { made = made; is = is; are = ok }
outcome view (Err refused) text made is ok err = record { error = Memory; is = err; why = tt }
