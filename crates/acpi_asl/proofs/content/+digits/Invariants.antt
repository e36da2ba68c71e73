use Rattle.acpi_asl.proofs.content.+digits.Given as goal

abbrev pub decreases-push_digits_at : goal.decreases-push_digits_at
decreases-push_digits_at l = l.width
