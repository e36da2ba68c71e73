use Rattle.std.proofs.Common.{◌≢◌, ℕ, ◌<◌, get_or, codes}
use Rattle.acpi_layout.specs.declared.located.Located.{Located}
use Rattle.acpi_layout.proofs.found.first_fadt.Given as goal

abbrev pub invariant-loop-i : goal.invariant-loop-i
invariant-loop-i l = (k : ℕ) (d : Located) → k < l.i → (get_or l.tables k d).signature ≢ codes "FACP"
