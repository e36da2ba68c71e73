use Rattle.acpi_base.proofs.Objects.{at_exit, answered}
use Rattle.acpi_ops.specs.AddressSpace.{space}
use Rattle.acpi_ops.proofs.Spaces.{space_length, space_refused, space_front}
use Rattle.acpi_ops.proofs.address_space.AddressSpaceAml.to_aml_bytes.Goals as goal

pub returns-in_err-size-clause-err : goal.returns-in_err-size-clause-err
returns-in_err-size-clause-err g c =
    let t = g.T.Address in
    at_exit c.from_residual.result _ c.in_err-size.field-0.0 c.from_residual.ensures.1 (space_refused t.number t.TAG t.WIDTH c.args.self.now _ _ c.in_err-size.ensures.err.0 c.in_err-size.ensures.err.1)

pub write-requires : goal.write-requires
write-requires g c = let t = g.T.Address in space_length t.number t.TAG t.WIDTH c.args.self.now _ c.fields.ensures

pub returns-clause-err : goal.returns-clause-err
returns-clause-err g c =
    let t = g.T.Address in
    answered _ (space t.number t.TAG t.WIDTH c.args.self.now) _ _ _ (space_front t.number t.TAG t.WIDTH c.args.self.now _ c.in_ok-size.ensures.ok.0 c.fields.ensures) c.write.ensures.err
