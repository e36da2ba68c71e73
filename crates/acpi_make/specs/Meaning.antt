-- What a text consists of.
use Rattle.std.specs.Prelude.{◌≡◌, ℕ, ◌-◌, List, [], ◌∷◌, length, reverse, Result, Ok, Err}
use Rattle.acpi_make.specs.Gives.{Fails, with_front}
use Rattle.acpi_make.specs.Item.{byte_items}
use Rattle.acpi_make.specs.Step.{line_end, step}
use Rattle.acpi_make.specs.Fault.{Fault, fault}
use Rattle.acpi_make.specs.declared.fault.MakeError.{MakeError}
use Rattle.acpi_make.specs.declared.item.Item.{Item}
use Rattle.acpi_make.specs.declared.state.State.{State}
use Rattle.acpi_make.specs.declared.state.State.TheVariants.{Start, Number}
use Rattle.acpi_make.specs.declared.state.Step.{Step}
use Rattle.acpi_make.specs.declared.state.Step.TheVariants.{Goes, Adds, Ends, Has, Wants}

-- the parts of a text, or what is wrong with it
abbrev pub Outcome : Type 0
Outcome = Result (List Item) Fault

-- What a step does at a place, with the bytes of the number that is being read, lowest first, and what the rest of the text
-- means.
abbrev pub act : ℕ → Step → List ℕ → (State → List ℕ → Outcome) → Outcome
act here (Goes state) number rest = rest state number
act here (Adds byte) number rest = rest Number (byte ∷ number)
act here (Ends state) number rest = with_front (byte_items number) (rest state [])
act here (Has item state) number rest = with_front (item ∷ []) (rest state number)
act here (Wants wanted) number rest = Err (fault here (here - 1) wanted)

-- The parts of a text from a state on, with the bytes of the number that is being read. The end of the text ends its last line.
abbrev pub read : State → List ℕ → List ℕ → Outcome
read state number [] = act 0 (line_end 0 state) number (λ state number. Ok [])
read state number (c ∷ text) =
    act (length (c ∷ text)) (step (length (c ∷ text)) state c) number (λ state number. read state number text)

-- the parts of a text
abbrev pub parts_of : List ℕ → Outcome
parts_of text = read Start [] text

-- ---- what a call does

-- A step was done. The number's bytes are kept with the lowest last.
abbrev pub Acts : Result State MakeError → ℕ → Step → List ℕ → List ℕ → List Item → List Item → Type 0
Acts (Ok state) here done number now items new =
    (rest : State → List ℕ → Outcome)
    → with_front new (rest state (reverse now)) ≡ with_front items (act here done (reverse number) rest)
Acts (Err error) here done number now items new =
    (rest : State → List ℕ → Outcome) → Fails error (act here done (reverse number) rest)
