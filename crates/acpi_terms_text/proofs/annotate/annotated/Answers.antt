use Rattle.std.proofs.Common.{◌≡◌, map, string_bytes, false, rules}
use Rattle.acpi_term.specs.Arity.{grammar_by}
use Rattle.acpi_term.specs.declared.language.Language.TheVariants.{Standard}
use Rattle.acpi_term.specs.View.{views}
use Rattle.acpi_read.specs.Lines.{lines}
use Rattle.acpi_read.specs.Terms.{AreReadIn}
use Rattle.acpi_terms_text.specs.Woven.{notes, woven}
use Rattle.acpi_terms_text.proofs.Placed.{is_annotated}
use Rattle.acpi_terms_text.proofs.annotate.annotated.Goals as goal

pub returns-clause-ok : goal.returns-clause-ok
returns-clause-ok c =
    let ts = views c.in_ok-terms.terms.items in
    let read : AreReadIn (grammar_by Standard c.args.arities.now) c.args.bytes.now ts = search rules in
    let report : string_bytes c.in_ok-lines.lines ≡ lines 0 ts = search rules in
    let said : map string_bytes c.add_notes.new.texts.items ≡ notes false ts = search rules in
    let text : string_bytes c.push_woven.new.text ≡ woven (string_bytes c.in_ok-lines.lines) (map string_bytes c.add_notes.new.texts.items) = search rules in
    is_annotated c.args.arities.now c.args.bytes.now ts (string_bytes c.in_ok-lines.lines) _ (map string_bytes c.add_notes.new.texts.items) read report said text
