use Rattle.acpi_core.proofs.Kept.{wrote_same, refused_same}
use Rattle.acpi_arm.proofs.dbg2.DBG2Aml.to_aml_bytes.Goals as goal

pub returns-clause-ok : goal.returns-clause-ok
returns-clause-ok g c = wrote_same _ _ _ _ _ c.self.view_is c.to_aml_bytes.ensures.ok

pub returns-clause-err : goal.returns-clause-err
returns-clause-err g c = refused_same _ _ _ _ _ c.self.view_is c.to_aml_bytes.ensures.err
