use Rattle.std.proofs.Common.{List, ℕ, ◌++◌, ◌∷◌, [], map, take, ap, sym, ◌∙◌}
use Rattle.std.proofs.lemmas.List.{map_more}
use Rattle.acpi_dump.specs.Dump.{titled}
use Rattle.acpi_dump.specs.declared.dump.Dumped.{Dumped}
use Rattle.acpitool_program.specs.Outcome.{labelled}
use Rattle.acpitool_program.proofs.Outcomes.{no_tables, tables_then, same_tables}
use Rattle.acpitool_program.proofs.outcome.visit_tables.Goals as goal

pub tables-init : goal.tables-init
tables-init g c = no_tables _ _ _ _

pub tables-preserved : goal.tables-preserved
tables-preserved g c =
    let of : Dumped → List ℕ × List ℕ = λ table. labelled c.args.name.now (titled table) in
    let tables = c.args.tables.now in
    let at = c.tables.table-index in
    same_tables
    (ap (λ (b : List ℕ × List ℕ). map of (take at tables) ++ b ∷ []) (ap of c.table-item.is)
    ∙ sym (map_more of tables at c.table-item.result c.tables-test.true))
    c.worst_of-worst.ensures
    (tables_then c.tables.invariant (rw (c.deref.ensures.value, c.deref-in-tables.ensures.value) at c.in_ok-status.ensures))
