use Rattle.acpi_terms_text.proofs.scoped.+near.Given as goal

abbrev pub decreases-add_near : goal.decreases-add_near
decreases-add_near l = l.levels
