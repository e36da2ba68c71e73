use Rattle.acpi_layout.proofs.rsdt.lay_reduced_rsdt.Goals as goal

pub returns : goal.returns
returns g c = rw c.flag-fadt.ensures at c.lay_low.ensures
