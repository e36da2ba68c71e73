use Rattle.acpi_tree.proofs.named.push_affinities.Goals as goal

-- The rows of the definition are those of the code.
pub returns : goal.returns
unfolding Rattle.acpi_rules.specs.Machine.affinities
returns c = c.push_links.ensures
