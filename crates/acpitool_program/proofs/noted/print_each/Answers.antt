use Rattle.std.proofs.Common.{◌++◌, map, ◌∙◌, sym, ap, append_assoc}
use Rattle.std.proofs.lemmas.List.{at_drop_more}
use Rattle.acpi_rules.specs.Field.{seen}
use Rattle.acpitool_program.proofs.Streams.{appends_then}
use Rattle.acpitool_program.specs.Noted.{notes}
use Rattle.acpitool_program.proofs.noted.print_each.Goals as goal

pub owns-preserved : goal.owns-preserved
owns-preserved g c =
    let done = c.owns.invariant.0 in (
      _,
      appends_then _ _ _ _ _ c.owns.invariant.1 c.in_ok-print_note.ensures,
      append_assoc done _ _
          ∙ ap (λ l. done ++ l) (sym (at_drop_more (notes c.args.name.now (map seen c.args.fields.now)) c.args.owns.now c.owns.own-index _ c.owns-test.true))
          ∙ c.owns.invariant.2,
    )
