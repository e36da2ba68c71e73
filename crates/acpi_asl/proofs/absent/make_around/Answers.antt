use Rattle.std.proofs.Common.{rules}
use Rattle.acpi_asl.proofs.Absents.{around_on, around_done}
use Rattle.acpi_asl.proofs.absent.make_around.Goals as goal

pub scopes-preserved : goal.scopes-preserved
scopes-preserved c =
    around_on c.scopes.around.now _ _ _ _ c.scopes-test.true c.parent-around.ensures c.in_ok-make.ensures c.scopes.invariant

pub returns : goal.returns
returns c = around_done c.scopes.around.now _ _ (search rules) c.scopes.invariant
