-- What functions return that fail by memory or by a fault.
use Rattle.std.specs.Prelude.{◌≡◌, List, ◌++◌, Result, Ok, Err}
use Rattle.acpi_make.specs.Fault.{Fault, fault_of}
use Rattle.acpi_make.specs.declared.fault.MakeError.{MakeError}
use Rattle.acpi_make.specs.declared.fault.MakeError.TheVariants as errors

-- an error, where this is the outcome: the outcome's fault, or that memory ran out
abbrev pub Fails : {B : Type 0} → MakeError → Result B Fault → Type 0
Fails errors.Memory outcome = Unit {0}
Fails (errors.Fault wrong) outcome = outcome ≡ Err (fault_of wrong)

-- what is returned, as seen by a view, is the outcome, unless memory ran out
abbrev pub Gives : {A B : Type 0} → (A → B) → Result A MakeError → Result B Fault → Type 0
Gives view (Ok value) outcome = outcome ≡ Ok (view value)
Gives view (Err error) outcome = Fails error outcome

-- an outcome with items before its own
abbrev pub with_front : {A : Type 0} → List A → Result (List A) Fault → Result (List A) Fault
with_front front (Ok items) = Ok (front ++ items)
with_front front (Err wrong) = Err wrong

-- what follows from an outcome
abbrev pub and_then : {A B : Type 0} → Result A Fault → (A → Result B Fault) → Result B Fault
and_then (Ok value) rest = rest value
and_then (Err wrong) rest = Err wrong

-- a call changes a value, as seen by a view, to the outcome, unless memory ran out
abbrev pub Changes : {B : Type 0} → Result (Unit {0}) MakeError → B → Result B Fault → Type 0
Changes (Ok done) new outcome = outcome ≡ Ok new
Changes (Err error) new outcome = Fails error outcome
