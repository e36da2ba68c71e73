use Rattle.std.proofs.Common.{ap, ◌∙◌}
use Rattle.acpi_base.proofs.Objects.{wrote_whole, refused_whole}
use Rattle.acpi_fixed.specs.Fadt.{fadt_bytes}
use Rattle.acpi_fixed.proofs.fadt.FADTAml.to_aml_bytes.Goals as goal

pub returns-clause-ok : goal.returns-clause-ok
returns-clause-ok g c = wrote_whole _ _ _ _ _ (c.sealed.ensures ∙ ap fadt_bytes c.self.view_is) c.vec.ensures.0

pub returns-clause-err : goal.returns-clause-err
returns-clause-err g c = refused_whole _ _ _ _ _ (c.sealed.ensures ∙ ap fadt_bytes c.self.view_is) c.vec.ensures.1
