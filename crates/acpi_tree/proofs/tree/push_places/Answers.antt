use Rattle.std.proofs.Common.{◌+◌, ap}
use Rattle.acpi_tree.proofs.Visits.{places_on}
use Rattle.acpi_tree.proofs.tree.push_places.Goals as goal

pub nodes-preserved : goal.nodes-preserved
nodes-preserved c = record {
  place = ap (λ n. n + 1) c.nodes.invariant.place;
  is = places_on c.nodes.place c.nodes.index c.args.nodes.now _ _ _ c.nodes-test.true c.nodes.invariant.place c.nodes.invariant.is c.in_ok-push.ensures.items;
}
