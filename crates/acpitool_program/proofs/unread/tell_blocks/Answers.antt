use Rattle.std.proofs.Common.{List, ℕ, [], ◌∷◌, ◌++◌, map, take, sym, ap, ◌∙◌}
use Rattle.std.proofs.lemmas.List.{map_more}
use Rattle.acpi_terms_text.specs.Objects.{callee_by}
use Rattle.acpitool_program.specs.Machine.{kept_by}
use Rattle.acpitool_program.proofs.UnreadBlocks.{none_told, told_then}
use Rattle.acpitool_program.proofs.unread.tell_blocks.Goals as goal

pub tables-init : goal.tables-init
tables-init g c = none_told _ _ _

pub tables-preserved : goal.tables-preserved
tables-preserved g c =
    let tables = c.args.tables.now in
    let at = c.tables.table-index in
    let table = c.table-item.result in
    told_then c.args.stated.now (map callee_by c.args.further.now) (map kept_by (take at tables)) _ (kept_by table) _ _ _ _ _ _ _
    (ap (λ (b : List ℕ × List ℕ). map kept_by (take at tables) ++ b ∷ []) (ap kept_by c.table-item.is)
    ∙ sym (map_more kept_by tables at table c.tables-test.true))
    c.worst_of-worst.ensures
    c.tables.invariant
    (rw c.deref.ensures.value at c.in_ok-fault.ensures)
    (rw c.as_str.ensures.value at c.in_ok-told.ensures.line)
    c.in_ok-told.ensures.is
