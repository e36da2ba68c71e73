use Rattle.std.proofs.Common.{rules, ◌≡◌, Some, None, map, string_bytes, arith, ap, sym, ◌∙◌}
use Rattle.acpi_input.specs.Stated.{stated_by, stated}
use Rattle.acpi_input.specs.Stated.{IsUnstatedWhere}
use Rattle.acpi_input.proofs.Words.{more, not_stated}
use Rattle.acpi_input.proofs.stated.arities.Goals as goal

pub returns-in_err-stated-clause-err : goal.returns-in_err-stated-clause-err
returns-in_err-stated-clause-err c =
    let told : IsUnstatedWhere (stated (map (λ word. string_bytes word) c.args.words.now) ≡ None) c.in_err-stated.field-0.0 =
    not_stated (λ word. string_bytes word) c.args.words.now c.loop-word.word-index c.word-item.result c.as_str.result.now (omega arith) c.word-item.is c.as_str.ensures.value c.in_err-stated.field-0.0 c.in_err-stated.ensures.err in
    search rules

pub loop-word-preserved : goal.loop-word-preserved
loop-word-preserved c =
    more (λ word. string_bytes word) c.args.words.now c.loop-word.word-index c.word-item.result c.loop-word.entries.items c.in_ok-stated.field-0 (omega arith) c.word-item.is c.loop-word.invariant (sym (ap stated_by c.as_str.ensures.value) ∙ c.in_ok-stated.ensures.ok)
    ∙ ap Some (sym c.in_ok-push.ensures.items)
