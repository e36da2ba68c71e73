use Rattle.acpi_terms_text.proofs.scoped.+names.Given as goal

abbrev pub decreases-names_near : goal.decreases-names_near
decreases-names_near l = l.levels
