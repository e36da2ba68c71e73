use Rattle.std.proofs.Common.{◌++◌, ap}
use Rattle.acpi_base.specs.Fields.{fields_joined}
use Rattle.acpi_base.proofs.Objects.{wrote_whole, refused_whole}
use Rattle.acpi_hest.proofs.hest.generic.GenericAml.to_aml_bytes.Goals as goal

pub write_record_behind-requires : goal.write_record_behind-requires
write_record_behind-requires g c = record { size = g.met.T.Tail.is_small }

pub returns-clause-ok : goal.returns-clause-ok
returns-clause-ok g c = wrote_whole _ _ _ _ _ (ap (λ h. h ++ fields_joined (g.T.Record.fields c.args.self.now.tail)) c.head.ensures) c.write_record_behind.ensures.ok

pub returns-clause-err : goal.returns-clause-err
returns-clause-err g c = refused_whole _ _ _ _ _ (ap (λ h. h ++ fields_joined (g.T.Record.fields c.args.self.now.tail)) c.head.ensures) c.write_record_behind.ensures.err
