use Rattle.acpi_base.proofs.Objects.{at_exit}
use Rattle.acpi_build.proofs.EisaIds.{unreadable}
use Rattle.acpi_build.proofs.eisa_id.EisaIdAml.to_aml_bytes.Goals as goal

pub returns-in_err-new-clause-err : goal.returns-in_err-new-clause-err
returns-in_err-new-clause-err g c = at_exit _ _ _ c.from_residual.ensures.1 (unreadable _ c.args.self.now.0.now _ c.in_err-new.ensures.err)
