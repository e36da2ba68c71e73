use Rattle.acpi_asl.proofs.content.+zeros.Given as goal

abbrev pub decreases-are_zero : goal.decreases-are_zero
decreases-are_zero l = l.count
