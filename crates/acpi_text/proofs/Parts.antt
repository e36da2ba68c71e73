-- What the parts of a structure show.
use Rattle.std.proofs.Common.{◌≡◌, ℕ, ◌+◌, ◌≤◌, List, [], ◌∷◌, ◌++◌, length, take, drop, sym, ap, subst, ◌∙◌}
use Rattle.std.proofs.Common.{Option, None}
use Rattle.std.proofs.lemmas.List.{append-nil}
use Rattle.acpi_text.specs.declared.form.Choice.{Choice}
use Rattle.acpi_text.specs.declared.form.Part.{Part}
use Rattle.acpi_text.specs.Form.{choice_slots, optional_slots, part_slots, parts_slots}
use Rattle.acpi_text.specs.Slot.{Slot, nameless, slots_text, Showed}
use Rattle.acpi_text.proofs.Shown.{showed_unknown, each_start, each_done}

pub showed_no_choice : (depth : ℕ) (choice : Option Choice) (at : ℕ) (bytes old new : List ℕ) → choice ≡ None → new ≡ old ++ nameless at bytes
    → Showed (choice_slots depth choice) at bytes old new (length bytes)
showed_no_choice depth choice at bytes old new none added =
    subst (λ slots. Showed slots at bytes old new (length bytes)) (sym (ap (choice_slots depth) none)) (showed_unknown at bytes old new added)

pub showed_without : (depth : ℕ) (choice : Option Choice) (at : ℕ) (bytes text : List ℕ) → choice ≡ None
    → Showed (optional_slots depth choice) at bytes text text 0
showed_without depth choice at bytes text none =
    subst (λ slots. Showed slots at bytes text text 0) (sym (ap (optional_slots depth) none))
    (each_start (λ (slot : Slot). slot ∷ []) [] at bytes text)

-- ---- all parts

-- all parts were shown, and then what is left
pub parts_done : (depth : ℕ) (parts : List Part) (start : ℕ) (whole old : List ℕ) (i n : ℕ) (now new rest : List ℕ) → length parts ≤ i
    → Showed (parts_slots depth start whole (take i parts)) start whole old now n
    → rest ≡ drop n whole → new ≡ now ++ nameless (start + n) rest → new ≡ old ++ slots_text start (parts_slots depth start whole parts) whole
parts_done depth parts start whole old i n now new rest all one back added =
    let whole_shown = each_done (part_slots depth start whole) parts start whole old i n now all one in
    added
    ∙ ap (λ (l : List ℕ). now ++ nameless (start + n) l) back
    ∙ sym (whole_shown.lines [])
    ∙ ap (λ l. old ++ slots_text start l whole) (append-nil (parts_slots depth start whole parts))
