use Rattle.std.proofs.Common.{take}
use Rattle.acpi_term.specs.ArityIndex.{Indexes}
use Rattle.acpi_term.proofs.arity_index.ArityIndex.of.Given as goal

abbrev pub invariant-counts : goal.invariant-counts
invariant-counts l = Indexes l.index (take l.name-index l.counts)
