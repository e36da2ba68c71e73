-- Writers that begin and end.
use Rattle.std.specs.Prelude.{◌≡◌, ℕ, ◌==◌, if◌then◌else◌, replicate}
use Rattle.acpi_c_calls.specs.Fault.{number_of}
use Rattle.acpi_c_calls.specs.declared.fault.Fault.TheVariants.{Null, StillOpen}
use Rattle.acpi_c_calls.specs.declared.state.State.{State}

-- the state of a writer without bytes
abbrev pub begun : State
begun = record { size = 0; depth = 0; marks = replicate 32 0; kinds = replicate 32 0; fault = 0 }

-- the first fault, if a pointer is NULL now
abbrev pub null_or : ℕ → ℕ
null_or number = if number == 0 then number_of Null else number

-- A pointer is NULL. This is the fault if there was none before.
pub record Nulls (before after : State) (number : ℕ) : Type 0 where
  pub kept : after ≡ record before { fault = null_or before.fault }
  pub returned : number ≡ after.fault

-- the first fault, or whether an object is still open
abbrev pub last_fault : State → ℕ
last_fault state = if state.fault == 0 then (if state.depth == 0 then 0 else number_of StillOpen) else state.fault

-- The writer ends without a fault, and its size is given. Or the size is 0, and the place is how many bytes are written.
pub record Finishes (state : State) (number size place : ℕ) : Type 0 where
  pub returned : number ≡ last_fault state
  pub given : size ≡ (if last_fault state == 0 then state.size else 0)
  pub at : place ≡ (if last_fault state == 0 then 0 else state.size)
