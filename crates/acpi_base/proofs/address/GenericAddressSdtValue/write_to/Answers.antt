use Rattle.acpi_base.proofs.address.GenericAddressSdtValue.write_to.Goals as goal

pub returns : goal.returns
returns c = rw c.bytes.ensures at c.write_bytes.ensures
