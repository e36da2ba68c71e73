use Rattle.std.proofs.Common.{List, ℕ, map, not, subst, sym, ap, string_bytes, ◌∙◌}
use Rattle.acpi_terms_text.specs.Objects.{callee_by}
use Rattle.acpitool_program.specs.Outcome.{heading}
use Rattle.acpitool_program.specs.Shown.{IsShownAs}
use Rattle.acpitool_program.proofs.Outcomes.{one_shown}
use Rattle.acpitool_program.proofs.show.show_table.Goals as goal

pub returns : goal.returns
returns g c =
    let showing = c.args.showing.now in
    let further = map callee_by showing.further.now in
    let shown = c.in_ok-shown.shown in
    let P : List ℕ → Type 0 = λ text. IsShownAs showing.style showing.stated.now further c.args.bytes.now text (string_bytes shown.after) shown.unread in
    let Q : List ℕ → Type 0 = λ after. IsShownAs showing.style showing.stated.now further c.args.bytes.now c.deref.result.now after shown.unread in
    one_shown showing.style (map (λ word. string_bytes word) showing.files.now) showing.stated.now further _ _ _ _ c.args.name.now _ c.args.bytes.now _ _
    shown.unread _ _
    (c.as_str.ensures.value ∙ c.in_ok-before.ensures ∙ ap (λ alone. heading (not alone) c.args.name.now) c.is_alone.ensures)
    (subst Q (sym c.as_str-2.ensures.value) (subst P (sym c.deref.ensures.value) c.in_ok-shown.ensures))
    (rw c.in_ok-fault.fault-is at c.in_ok-fault.ensures)
    c.in_ok-print_text.ensures c.in_ok-tell_fault.ensures.line c.in_ok-tell_fault.ensures.is
