use Rattle.acpi_base.proofs.Ends.{is_valid_after_its_calls}
use Rattle.acpi_base.proofs.sdt.sdt_is_valid.Goals as goal

pub returns : goal.returns
returns c = rw (← c.table.view_is) (is_valid_after_its_calls _ c.table.invariant.fits)
