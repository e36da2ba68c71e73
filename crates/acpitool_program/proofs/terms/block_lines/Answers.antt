use Rattle.std.proofs.Common.{◌≡◌, List, ℕ, IfOk, string_bytes, subst, rules}
use Rattle.std.proofs.lemmas.List.{take_rest}
use Rattle.acpitool_program.specs.Terms.{report_lines}
use Rattle.acpitool_program.proofs.Blocks.{report_follows, error_follows}
use Rattle.acpitool_program.proofs.terms.block_lines.Goals as goal

pub returns-in-Ok : goal.returns-in-Ok
returns-in-Ok c =
    let P : List ℕ → Type 0 = λ text. IfOk c.report_lines.result (λ lines. string_bytes lines ≡ report_lines text) in
    report_follows c.args.stated.now c.args.bytes.now _ (rw take_rest at c.in-Ok.ensures.ok) _
    (subst P c.as_str.ensures.value c.report_lines.ensures)

pub returns-in-Err : goal.returns-in-Err
returns-in-Err c = error_follows c.args.stated.now c.args.bytes.now c.in-Err.error c.after.result (search rules)
    (rw take_rest at c.in-Err.ensures.err) c.after.ensures _ c.error_line.ensures
