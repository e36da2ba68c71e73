use Rattle.std.proofs.Common.{◌∙◌, sym}
use Rattle.acpi_core.proofs.Flats.{length-bytes}
use Rattle.acpi_arm.proofs.dbg2.DBG2.len.Goals as goal

pub returns : goal.returns
returns c = rw (← c.self.view_is) (c.len.ensures ∙ sym (length-bytes _ c.self.invariant.is))
