use Rattle.std.proofs.Common.{◌≤◌, arith}
use Rattle.acpi_tree.proofs.Visits.{spaces_written}
use Rattle.acpi_tree.proofs.tree.+spaces.Goals as goal

pub returns : goal.returns
returns t c =
    let some : 1 ≤ c.args.depth = omega (arith, c.if-depth-eq0.false) in
    spaces_written c.args.depth _ _ _ some c.in_ok-extend_from_slice.ensures.items c.in_ok-push_spaces.ensures
