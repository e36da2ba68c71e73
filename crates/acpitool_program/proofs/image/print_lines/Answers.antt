use Rattle.std.proofs.Common.{◌++◌, ◌∙◌, sym, ap, append_assoc}
use Rattle.std.proofs.lemmas.List.{at_drop_more}
use Rattle.acpitool_program.proofs.Streams.{appends_then}
use Rattle.acpitool_program.specs.Image.{table_lines}
use Rattle.acpitool_program.proofs.image.print_lines.Goals as goal

pub tables-preserved : goal.tables-preserved
tables-preserved g c =
    let done = c.tables.invariant.0 in (
      _,
      appends_then _ _ _ _ _ c.tables.invariant.1 c.in_ok-print_table.ensures,
      append_assoc done _ _
          ∙ ap (λ l. done ++ l) (sym (at_drop_more (table_lines c.args.base c.args.bytes.now) c.args.tables.now c.tables.table-index _ c.tables-test.true))
          ∙ c.tables.invariant.2,
    )
