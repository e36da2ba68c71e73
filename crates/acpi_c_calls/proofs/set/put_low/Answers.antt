use Rattle.std.proofs.Common.{◌∙◌, ℕ, List, take, ap, subst}
use Rattle.std.proofs.lemmas.List.{append-nil}
use Rattle.acpi_base.proofs.Values.{le_take}
use Rattle.acpi_c_calls.specs.Writer.{IsDone, adds_bytes}
use Rattle.acpi_c_calls.proofs.set.put_low.Goals as goal

pub returns : goal.returns
returns c =
    let a = c.args in
    let same = append-nil (take a.width c.to_le_bytes.result) ∙ ap (take a.width) c.to_le_bytes.ensures ∙ le_take a.width a.value c.requires in
    subst (λ (piece : List ℕ). IsDone (adds_bytes piece a.bytes.now a.state.now) a.bytes.now a.state.now c.put.new.bytes c.put.new.state c.put.result)
    same c.put.ensures
