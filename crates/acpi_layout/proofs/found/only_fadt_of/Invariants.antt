use Rattle.std.proofs.Common.{◌≢◌, ℕ, ◌+◌, ◌<◌, get_or, codes}
use Rattle.acpi_layout.specs.declared.located.Located.{Located}
use Rattle.acpi_layout.proofs.found.only_fadt_of.Given as goal

abbrev pub invariant-loop-other : goal.invariant-loop-other
invariant-loop-other l = (k : ℕ) (d : Located) → k < l.other-index → (get_or l.tables (l.index + 1 + k) d).signature ≢ codes "FACP"
