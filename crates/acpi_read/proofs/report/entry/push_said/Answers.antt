use Rattle.acpi_read.proofs.report.entry.push_said.Goals as goal

pub returns-in-Reserved : goal.returns-in-Reserved
returns-in-Reserved c = rw (c.in-Reserved.is, ← c.from.ensures) c.push_number.ensures
