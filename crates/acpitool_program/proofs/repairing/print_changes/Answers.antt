use Rattle.std.proofs.Common.{◌++◌, ◌∙◌, sym, ap, append_assoc}
use Rattle.std.proofs.lemmas.List.{at_drop_more}
use Rattle.acpitool_program.proofs.Streams.{appends_then}
use Rattle.acpitool_program.specs.Repairing.{changes}
use Rattle.acpitool_program.proofs.repairing.print_changes.Goals as goal

pub seals-preserved : goal.seals-preserved
seals-preserved g c =
    let done = c.seals.invariant.0 in (
      _,
      appends_then _ _ _ _ _ c.seals.invariant.1 c.in_ok-print_change.ensures,
      append_assoc done _ _
          ∙ ap (λ l. done ++ l) (sym (at_drop_more (changes c.args.name.now c.args.old.now c.args.new.now) c.args.seals.now c.seals.seal-index _ c.seals-test.true))
          ∙ c.seals.invariant.2,
    )
