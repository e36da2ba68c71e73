use Rattle.std.proofs.Common.{◌≡◌, ℕ, drop, arith}
use Rattle.std.proofs.lemmas.Grind.{common_steps}
use Rattle.acpi_make.specs.Own.{labelled, find_label}
use Rattle.acpi_make.specs.Text.{part_at}
use Rattle.acpi_make.proofs.own.push_references.Goals as goal

pub returns-in_err-push_reference-in-Reference : goal.returns-in_err-push_reference-in-Reference
returns-in_err-push_reference-in-Reference c =
    let at = c.in_ok-labels.ensures (drop 1 (part_at c.in-Reference.from c.in-Reference.to c.args.text.now)) in
    grind (arith, common_steps, at)

pub marks-preserved : goal.marks-preserved
marks-preserved c =
    let at : (from to : ℕ) → labelled c.in_ok-labels.labels (drop 1 (part_at from to c.args.text.now)) ≡ find_label c.args.text.now (drop 1 (part_at from to c.args.text.now)) c.args.marks.now
    = λ from to. c.in_ok-labels.ensures (drop 1 (part_at from to c.args.text.now)) in
    grind (arith, common_steps, at)
