use Rattle.acpi_layout.proofs.found.only_fadt.Goals as goal

pub returns-clause-err : goal.returns-clause-err
returns-clause-err c = rw c.least_fadt.ensures at c.only_fadt_of.ensures.err
