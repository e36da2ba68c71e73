use Rattle.acpi_terms_text.proofs.alias.+near.Given as goal

abbrev pub decreases-args_near : goal.decreases-args_near
decreases-args_near l = l.levels
