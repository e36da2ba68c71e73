-- Exit statuses.
use Rattle.std.specs.Prelude.{ℕ}
use Rattle.acpi_example.specs.declared.failure.Failure.{Failure}
use Rattle.acpi_example.specs.declared.failure.Failure.TheVariants.{Usage, Base}

abbrev pub status_of : Failure → ℕ
status_of Usage = 2
status_of (Base base) = 2
status_of _ = 1
