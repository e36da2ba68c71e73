use Rattle.std.proofs.Common.{List, ℕ, [], ◌∷◌, ◌++◌, map, take, sym, subst, ap, ◌∙◌}
use Rattle.std.proofs.lemmas.List.{map_more}
use Rattle.acpi_forms.specs.Kind.{kind_of}
use Rattle.acpitool_program.specs.Machine.{kept_by}
use Rattle.acpitool_program.specs.Text.{IsKind}
use Rattle.acpitool_program.proofs.Outcomes.{no_tables, tables_then, same_tables, shown_keep, kind_at}
use Rattle.acpitool_program.proofs.show.show_tables.Goals as goal

pub tables-init : goal.tables-init
tables-init g c = no_tables _ _ _ _

pub show_table-requires : goal.show_table-requires
show_table-requires g c =
    let P : List ℕ → Type 0 = λ bytes. IsKind (kind_of bytes) bytes in
    subst P (sym c.deref.ensures.value) (kind_at c.args.tables.now c.tables.table-index c.table-item.result c.tables-test.true c.table-item.is c.requires)

pub tables-preserved : goal.tables-preserved
tables-preserved g c =
    let tables = c.args.tables.now in
    let at = c.tables.table-index in
    let table = c.table-item.result in
    same_tables
    (ap (λ (b : List ℕ × List ℕ). map kept_by (take at tables) ++ b ∷ []) (ap kept_by c.table-item.is)
    ∙ sym (map_more kept_by tables at table c.tables-test.true))
    c.worst_of-worst.ensures
    (tables_then c.tables.invariant (shown_keep (rw (c.as_str.ensures.value, c.deref.ensures.value) at c.in_ok-status.ensures)))
