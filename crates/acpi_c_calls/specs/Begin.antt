-- Tables that a writer begins and ends.
use Rattle.std.specs.Prelude.{◌≡◌, ℕ, ◌==◌, ◌&&◌, nat_le, Bool, true, false, if◌then◌else◌, List, length, take, drop, Result, Err}
use Rattle.acpi_base.specs.Header.{header}
use Rattle.acpi_base.specs.declared.oem.Oem.{Oem}
use Rattle.acpi_c_calls.specs.Fault.{number_of}
use Rattle.acpi_c_calls.specs.Finish.{last_fault}
use Rattle.acpi_c_calls.specs.Seal.{Seals}
use Rattle.acpi_c_calls.specs.Writer.{Written, adds_bytes}
use Rattle.acpi_c_calls.specs.declared.fault.Fault.{Fault}
use Rattle.acpi_c_calls.specs.declared.fault.Fault.TheVariants as fault
use Rattle.acpi_c_calls.specs.declared.state.State.{State}

-- the header of a table of this maker
abbrev pub begins_by : List ℕ → ℕ → Oem → List ℕ → State → Result Written Fault
begins_by signature revision oem old before =
    if length oem.id == 6 && length oem.table_id == 8
    then adds_bytes (header signature 36 revision oem) old before
    else Err fault.OemText

abbrev pub begins_with : List ℕ → ℕ → Oem → List ℕ → State → Result Written Fault
begins_with signature revision oem old before =
    if length signature == 4 then begins_by signature revision oem old before else Err fault.Signature

-- the header of a table, in an empty writer
abbrev pub begins_table : List ℕ → ℕ → List ℕ → List ℕ → ℕ → List ℕ → State → Result Written Fault
begins_table signature revision oem_id oem_table_id oem_revision old before =
    if before.size == 0 && before.depth == 0
    then begins_with signature revision (record { id = oem_id; table_id = oem_table_id; revision = oem_revision }) old before
    else Err fault.NotEmpty

-- The bytes that are written are made into a table, if there are enough and not too many. All others are as before.
pub record SealsFront (n : ℕ) (old new : List ℕ) (number size place : ℕ) : Type 0 where
  pub seals : Seals (take n old) (take n new) number place
  pub rest : drop n new ≡ drop n old
  pub given : size ≡ (if number == 0 then n else 0)

-- why no table ends, with nothing written
pub record IsNoEnd (fault : ℕ) (state : State) (old new : List ℕ) (number size place : ℕ) : Type 0 where
  pub returned : number ≡ fault
  pub kept : new ≡ old
  pub none : size ≡ 0
  pub at : place ≡ state.size

-- the bytes that are written are those of a table, or the state is wrong
abbrev pub EndsFront : Bool → State → List ℕ → List ℕ → ℕ → ℕ → ℕ → Type 0
EndsFront true state old new number size place = SealsFront state.size old new number size place
EndsFront false state old new number size place = IsNoEnd (number_of fault.WriterState) state old new number size place

-- there is no fault and no object is open, or there is one
abbrev pub EndsIf : Bool → State → List ℕ → List ℕ → ℕ → ℕ → ℕ → Type 0
EndsIf true state old new number size place =
    EndsFront (nat_le state.size (length old)) state old new number size place
EndsIf false state old new number size place = IsNoEnd (last_fault state) state old new number size place

-- A table ends.
abbrev pub Ends : State → List ℕ → List ℕ → ℕ → ℕ → ℕ → Type 0
Ends state old new number size place = EndsIf (last_fault state == 0) state old new number size place
