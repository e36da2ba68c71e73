use Rattle.acpi_asl.proofs.Absents.{going_start, going_on, going_done, connections_split, connections_past}
use Rattle.acpi_asl.proofs.absent.push_connections.Goals as goal

pub entries-init : goal.entries-init
entries-init c = going_start _ _ _

pub entries-preserved : goal.entries-preserved
entries-preserved c =
    let split = connections_split c.args.scope.now c.args.entries.now c.entries.entry-index c.entry-item.result c.entries-test.true c.entry-item.is in
    going_on _ _ _ _ _ _ c.entries.invariant _ _ _ _ split c.in_ok-push_connection.ensures

pub returns : goal.returns
returns c =
    going_done _ _ _ _ _ _ c.entries.invariant (connections_past c.args.scope.now c.args.entries.now c.entries.entry-index c.entries-test.false)
