use Rattle.acpi_c_calls.proofs.Noted.{outcome}
use Rattle.acpi_c_calls.proofs.notes.noted.Goals as goal

pub returns-in-Ok : goal.returns-in-Ok
returns-in-Ok c =
    outcome (λ notes. notes.items) c.notes_of.result c.args.text.now c.in-Ok.made c.in-Ok.ensures
    (rw c.deref.ensures.value at c.notes_of.ensures.ok) c.notes_of.ensures.err
