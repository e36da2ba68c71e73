use Rattle.acpi_compile.proofs.doubt.+known.Given as goal

abbrev pub decreases-note_all : goal.decreases-note_all
decreases-note_all l = l.depth
