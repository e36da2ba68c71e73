use Rattle.std.proofs.Common.{◌≡◌, ◌≤◌, false, arith, rules}
use Rattle.acpi_tree.proofs.Visits.{first_written}
use Rattle.acpi_tree.specs.Tree.{has_full}
use Rattle.acpi_tree.proofs.tree.+visit.Goals as goal

pub visit-returns : goal.visit-returns
visit-returns t c =
    let some : 1 ≤ c.args.levels = omega (arith, c.if-levels-eq0.false) in
    let unseen : has_full c.args.lines.now.items c.args.index ≡ false = search rules in
    first_written c.args.nodes.now c.args.edges.now c.args.levels c.args.depth _ _ _ c.args.index some unseen c.in_ok-push_line.ensures
    (rw (c.deref-2.ensures.value, c.in_ok-below.ensures) at c.in_ok-visit_all.ensures)
