-- Calls that go by the form of the table that is written.
use Rattle.std.specs.Prelude.{ℕ, nat_le, if◌then◌else◌, List, length, Option, Result}
use Rattle.acpi_base.specs.Bytes.{field_at}
use Rattle.acpi_base.specs.FurtherWalk.{table_walk_of}
use Rattle.acpi_base.specs.declared.walk.Walk.{Walk}
use Rattle.acpi_forms.specs.Named.{IsNamed, names_of}
use Rattle.acpi_text.specs.declared.form.TableForm.{TableForm}
use Rattle.acpi_c_calls.specs.Add.{in_table}
use Rattle.acpi_c_calls.specs.Writer.{Written, Writes}
use Rattle.acpi_c_calls.specs.declared.fault.Fault.{Fault}
use Rattle.acpi_c_calls.specs.declared.state.State.{State}

-- the signature at the front of bytes as a number, lowest byte first; 0 if there are too few
abbrev pub signature_in : List ℕ → ℕ
signature_in bytes = if nat_le 4 (length bytes) then field_at 0 4 bytes else 0

-- A call does this by a form that has the names of the table's signature, and by the walk of the signature.
pub record WritesBy (call : TableForm → Option Walk → List ℕ → State → Result Written Fault) (old : List ℕ) (before : State)
    (new : List ℕ) (after : State) (number : ℕ) : Type 0 where
  pub form : TableForm
  pub is_named : IsNamed form (names_of (signature_in old))
  pub writes : Writes (in_table (call form (table_walk_of (signature_in old)))) old before new after number

-- A call does this by the walk of the table's signature.
abbrev pub WritesByWalk : (Option Walk → List ℕ → State → Result Written Fault) → List ℕ → State → List ℕ → State → ℕ → Type 0
WritesByWalk call old before new after number =
    Writes (in_table (call (table_walk_of (signature_in old)))) old before new after number
