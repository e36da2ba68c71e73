use Rattle.acpi_tree.proofs.graph.push_referred.Goals as goal

-- The rows of the definition are those of the code.
pub returns : goal.returns
unfolding Rattle.acpi_rules.specs.Standard.referred
returns c = c.push_rules.ensures
