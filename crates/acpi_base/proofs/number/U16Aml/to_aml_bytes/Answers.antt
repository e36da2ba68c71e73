use Rattle.std.proofs.Common.{rules}
use Rattle.acpi_base.proofs.Objects.{answered}
use Rattle.acpi_base.proofs.number.U16Aml.to_aml_bytes.Goals as goal

pub returns-clause-err : goal.returns-clause-err
returns-clause-err g c = answered _ _ _ _ _ (search rules) c.vec.ensures.1
