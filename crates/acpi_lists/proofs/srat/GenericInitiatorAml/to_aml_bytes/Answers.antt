use Rattle.acpi_base.proofs.Objects.{at_exit}
use Rattle.acpi_lists.proofs.Initiators.{unaddressed}
use Rattle.acpi_lists.proofs.srat.GenericInitiatorAml.to_aml_bytes.Goals as goal

pub returns-in_err-bytes-clause-err : goal.returns-in_err-bytes-clause-err
returns-in_err-bytes-clause-err g c = at_exit _ _ _ c.from_residual.ensures.1 (unaddressed _ _ _ _ c.in_err-bytes.ensures.err)
