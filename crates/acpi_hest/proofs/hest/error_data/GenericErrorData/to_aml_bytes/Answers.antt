use Rattle.acpi_base.proofs.Objects.{at_exit}
use Rattle.acpi_hest.proofs.Boxes.{wrote_behind, refused_behind, refused_head}
use Rattle.acpi_hest.proofs.hest.error_data.GenericErrorData.to_aml_bytes.Goals as goal

pub returns-in_err-vec-clause-err : goal.returns-in_err-vec-clause-err
returns-in_err-vec-clause-err g c = at_exit _ _ _ c.from_residual.ensures.1 (refused_head _ _ _ _ _ _ c.head.ensures c.in_err-vec.ensures.1)

pub returns-clause-ok : goal.returns-clause-ok
returns-clause-ok g c = wrote_behind _ _ _ _ _ _ _ c.head.ensures c.in_ok-vec.ensures.0 c.write_all.ensures.ok

pub returns-clause-err : goal.returns-clause-err
returns-clause-err g c = refused_behind _ _ _ _ _ _ _ c.head.ensures c.in_ok-vec.ensures.0 c.write_all.ensures.err
