use Rattle.std.proofs.Common.{◌≡◌, ◌∷◌, ◌++◌, ℕ, List, ap, ◌∙◌, string_bytes, rules}
use Rattle.acpi_terms_text.specs.Woven.{woven}
use Rattle.acpi_terms_text.proofs.Woven.{woven_on, woven_done}
use Rattle.acpi_terms_text.proofs.annotate.push_woven.Goals as goal

pub lines-preserved : goal.lines-preserved
lines-preserved c =
    let said : c.as_str.result.now ≡ string_bytes c.note-item.result = search rules in
    (search rules, woven_on string_bytes c.args.notes.now c.lines.note-index c.lines.rest.now (string_bytes c.lines.text) _ c.lines.invariant.1 c.note-item.result _ _ c.lines-test.true c.note-item.is (λ ns. c.in_ok-rest.ensures ns ∙ ap (λ (n : List ℕ). string_bytes c.lines.text ++ woven c.lines.rest.now (n ∷ ns)) said))

pub returns : goal.returns
returns c = woven_done string_bytes c.args.notes.now c.lines.note-index c.lines.rest.now (string_bytes c.lines.text) _ c.lines.invariant.1 _ c.lines-test.false c.in_ok-push_str.ensures.bytes
