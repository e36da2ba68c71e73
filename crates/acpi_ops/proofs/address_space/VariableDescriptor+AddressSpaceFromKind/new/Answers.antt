use Rattle.acpi_ops.proofs.Spaces.{spaced_length}
use Rattle.acpi_ops.proofs.address_space.VariableDescriptor+AddressSpaceFromKind.new.Goals as goal

pub bytes-requires : goal.bytes-requires
bytes-requires g c = let t = g.T.Address in spaced_length t.number t.TAG t.WIDTH c.args.range _ _ c.fields_of.ensures
