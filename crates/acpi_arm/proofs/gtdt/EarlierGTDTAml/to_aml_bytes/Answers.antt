use Rattle.std.specs.Prelude.{codes}
use Rattle.acpi_fixed.proofs.Headed.{wrote_padded, refused_padded}
use Rattle.acpi_arm.proofs.gtdt.EarlierGTDTAml.to_aml_bytes.Goals as goal

pub returns-clause-ok : goal.returns-clause-ok
returns-clause-ok g c = wrote_padded _ 96 (codes "GTDT") 2 _ _ _ _ _ c.first.ensures c.write_padded.ensures.ok

pub returns-clause-err : goal.returns-clause-err
returns-clause-err g c = refused_padded _ 96 (codes "GTDT") 2 _ _ _ _ _ c.first.ensures c.write_padded.ensures.err
