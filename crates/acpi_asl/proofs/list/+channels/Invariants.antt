use Rattle.acpi_asl.proofs.list.+channels.Given as goal

abbrev pub decreases-push_channels : goal.decreases-push_channels
decreases-push_channels l = l.left
