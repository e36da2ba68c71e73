use Rattle.std.proofs.Common.{◌≡◌, List, ℕ, None, IfOk, string_bytes, subst, ap, ◌∙◌}
use Rattle.acpi_forms.specs.Layout.{names_in}
use Rattle.acpi_forms.specs.Named.{IsNamed}
use Rattle.acpi_text.specs.Comment.{comment}
use Rattle.acpi_text.specs.Table.{table_text}
use Rattle.acpitool_program.proofs.Headers.{is_header}
use Rattle.acpitool_program.proofs.shown.header_text.Goals as goal

pub returns : goal.returns
returns c =
    let bytes = c.args.bytes.now in
    let fields = string_bytes c.in_ok-fields.fields in
    let form = c.form_in.result in
    let N : ℕ → Type 0 = λ n. IsNamed form (names_in n bytes) in
    let C : List ℕ → Type 0 = λ l. IfOk c.commented.result (λ text. text.items ≡ comment l) in
    is_header c.args.bare bytes fields c.in_ok-as_asked.field-0.items form
    (subst N c.dword_at.ensures c.form_in.ensures)
    (c.in_ok-fields.ensures ∙ ap (λ (l : List ℕ). table_text form None l) c.split_at.ensures.front)
    c.in_ok-as_asked.ensures.whole c.in_ok-as_asked.ensures.bare c.commented.result (subst C c.deref.ensures.value c.commented.ensures)
