use Rattle.acpi_layout.proofs.layout.lay_reduced.Goals as goal

pub returns : goal.returns
returns g c = rw c.flag-fadt.ensures at c.lay_all.ensures
