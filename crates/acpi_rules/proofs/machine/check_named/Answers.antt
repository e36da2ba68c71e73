use Rattle.acpi_rules.proofs.machine.check_named.Goals as goal

-- The rows of the definition are those of the code.
pub returns : goal.returns
unfolding Rattle.acpi_rules.specs.Machine.named
returns c = c.check_links.ensures
