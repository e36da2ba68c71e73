use Rattle.std.proofs.Common.{List, ℕ, [], ◌∷◌, ◌++◌, ap, map, take, subst, sym, ◌∙◌}
use Rattle.std.proofs.lemmas.List.{map_more}
use Rattle.acpi_terms_text.specs.Objects.{callee_by}
use Rattle.acpitool_program.specs.Machine.{kept_by}
use Rattle.acpitool_program.specs.Shown.{AddsBlocks}
use Rattle.acpitool_program.proofs.Furthers.{blocks_more}
use Rattle.acpitool_program.proofs.further.objects_of.Goals as goal

pub tables-preserved : goal.tables-preserved
tables-preserved c =
    let stated = c.args.stated.now in
    let tables = c.args.tables.now in
    let at = c.tables.table-index in
    let table = c.table-item.result in
    let before = map kept_by (take at tables) in
    let P : List (List ℕ × List ℕ) → Type 0 = λ l. AddsBlocks stated l [] (map callee_by c.add_block.new.all.items) in
    subst P
    (ap (λ (b : List ℕ × List ℕ). before ++ b ∷ []) (ap kept_by c.table-item.is) ∙ sym (map_more kept_by tables at table c.tables-test.true))
    (blocks_more stated before (kept_by table) _ _ _ c.tables.invariant (rw c.deref.ensures.value at c.in_ok-add_block.ensures))
