use Rattle.std.proofs.Common.{◌++◌, ap, ◌∙◌}
use Rattle.acpi_base.proofs.Objects.{wrote_whole, refused_whole}
use Rattle.acpi_hest.specs.Rqsc.{controller_head}
use Rattle.acpi_hest.proofs.rqsc.QoSControllerAml.to_aml_bytes.Goals as goal

pub returns-clause-ok : goal.returns-clause-ok
returns-clause-ok g c = wrote_whole _ _ _ _ _ (ap (λ h. h ++ c.resources.result.now) c.head.ensures ∙ ap (λ r. controller_head c.args.self.now ++ r) c.resources.ensures) c.write_behind.ensures.ok

pub returns-clause-err : goal.returns-clause-err
returns-clause-err g c = refused_whole _ _ _ _ _ (ap (λ h. h ++ c.resources.result.now) c.head.ensures ∙ ap (λ r. controller_head c.args.self.now ++ r) c.resources.ensures) c.write_behind.ensures.err
