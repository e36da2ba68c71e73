use Rattle.std.proofs.Common.{rules}
use Rattle.acpi_read.proofs.Dotted.{up_goes_on, shown_after}
use Rattle.acpi_read.proofs.report.words.push_name.Goals as goal

pub up-preserved : goal.up-preserved
up-preserved c =
    (up_goes_on _ _ _ c.up.rest.now _ c.up.invariant.0 c.after_up-rest.ensures (search rules), shown_after c.up.rest.now _ c.up.invariant.1 c.after_up-rest.ensures)
