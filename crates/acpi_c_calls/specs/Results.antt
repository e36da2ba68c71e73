-- What calls return, and what they leave in the caller's memory.
use Rattle.std.specs.Prelude.{◌≡◌, ℕ, nat_le, Bool, true, false, List, ◌++◌, length, drop, Result, Ok, Err}
use Rattle.acpi_c_calls.specs.Fault.{number_of}
use Rattle.acpi_c_calls.specs.declared.fault.Fault.TheVariants.{Buffer}
use Rattle.acpi_c_calls.specs.declared.refused.Refused.{Refused}

-- ---- outcomes

-- what was found is as the first fact says, or the refusal as the second
abbrev pub IsOutcome : {A : Type 0} → (A → Type 0) → (Refused → Type 0) → Result A Refused → Type 0
IsOutcome is why (Ok found) = is found
IsOutcome is why (Err refused) = why refused

-- an outcome, seen by a view
abbrev pub seen : {A B : Type 0} → (A → B) → Result A Refused → Result B Refused
seen view (Ok found) = Ok (view found)
seen view (Err refused) = Err refused

-- ---- calls that only check

-- an outcome as a number and a place: 0 and 0, or those of the refusal
abbrev pub IsResult : {A : Type 0} → Result A Refused → ℕ → ℕ → Type 0
IsResult (Ok found) number place = (number ≡ 0) × (place ≡ 0)
IsResult (Err refused) number place = (number ≡ number_of refused.fault) × (place ≡ refused.place)

-- A fact holds and 0 is returned, or the number and the place of a refusal are.
pub record Checks (fact : Type 0) (why : Refused → Type 0) (number place : ℕ) : Type 0 where
  pub outcome : Result (Unit {0}) Refused
  pub is : IsOutcome (λ done. fact) why outcome
  pub returned : IsResult outcome number place

-- ---- calls that write into a buffer

-- what was found is at the front of a buffer that has space for it; any other buffer is unchanged
abbrev pub IsPut : {A : Type 0} → Bool → List A → List A → List A → ℕ → Type 0
IsPut true found old new number = (number ≡ 0) × (new ≡ found ++ drop (length found) old)
IsPut false found old new number = (number ≡ number_of Buffer) × (new ≡ old)

-- An outcome as a number, a place, the size of what was found, and a buffer. With a refusal the size is 0, and the buffer is
-- unchanged.
abbrev pub IsGiven : {A : Type 0} → Result (List A) Refused → List A → List A → ℕ → ℕ → ℕ → Type 0
IsGiven (Ok found) old new number place size =
    (place ≡ 0) × (size ≡ length found) × IsPut (nat_le (length found) (length old)) found old new number
IsGiven (Err refused) old new number place size =
    (number ≡ number_of refused.fault) × (place ≡ refused.place) × (size ≡ 0) × (new ≡ old)

-- What was found is as the fact says, and is given to the caller; or there is a refusal, whose number and place are.
pub record Gives {A : Type 0} (is : List A → Type 0) (why : Refused → Type 0) (old new : List A)
    (number place size : ℕ) : Type 0 where
  pub outcome : Result (List A) Refused
  pub found : IsOutcome is why outcome
  pub given : IsGiven outcome old new number place size

-- the same for a call without a place
abbrev pub GivesAnywhere : {A : Type 0} → (List A → Type 0) → (Refused → Type 0) → List A → List A → ℕ → ℕ → Type 0
GivesAnywhere is why old new number size = (place : ℕ) × Gives is why old new number place size
