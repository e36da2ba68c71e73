use Rattle.std.proofs.Common.{◌∙◌, sym}
use Rattle.acpi_core.proofs.Flats.{length-bytes}
use Rattle.acpi_core.proofs.walked.Walked.len.Goals as goal

pub returns : goal.returns
returns g c = rw (← c.self.view_is) (c.len.ensures ∙ sym (length-bytes _ c.self.invariant.is))
