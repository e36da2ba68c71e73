use Rattle.acpi_asl.proofs.special.push_special.Goals as goal

pub returns-in-Buffer : goal.returns-in-Buffer
returns-in-Buffer c = rw (c.in-Buffer.is, ← c.is_uuid_buffer-uuid.ensures) c.push_buffer.ensures
