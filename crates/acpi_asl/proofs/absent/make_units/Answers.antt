use Rattle.acpi_asl.proofs.Absents.{units_on}
use Rattle.acpi_asl.proofs.absent.make_units.Goals as goal

pub entries-preserved : goal.entries-preserved
entries-preserved c =
    units_on c.args.scope.now _ _ _ _ _ _ c.entries-test.true c.entry-item.is c.in_ok-make_unit.ensures c.entries.invariant
