use Rattle.std.proofs.Common.{List, ℕ, ◌∷◌, ◌+◌, ◌++◌, drop, ◌∙◌, sym, ap, append_assoc}
use Rattle.std.proofs.lemmas.List.{at_drop_more}
use Rattle.acpi_compile.specs.declared.fault.AslFault.{AslFault}
use Rattle.acpitool_program.proofs.Streams.{appends_then}
use Rattle.acpitool_program.specs.Compiling.{doubt_lines}
use Rattle.acpitool_program.proofs.compiling.tell_doubts.Goals as goal

pub doubts-preserved : goal.doubts-preserved
doubts-preserved g c =
    let done = c.doubts.invariant.0 in
    let one = c.doubt-item.result in
    let rest = drop (c.doubts.doubt-index + 1) c.args.doubts.now in
    let lines : List AslFault → List ℕ = doubt_lines c.args.name.now c.args.text.now in (
      _,
      appends_then _ _ _ _ _ c.doubts.invariant.1 c.in_ok-tell.ensures,
      append_assoc done _ (lines rest)
          ∙ ap (λ (doubt : AslFault). done ++ lines (doubt ∷ rest)) c.doubt-item.is
          ∙ ap (λ l. done ++ l) (sym (at_drop_more lines c.args.doubts.now c.doubts.doubt-index one c.doubts-test.true))
          ∙ c.doubts.invariant.2,
    )
