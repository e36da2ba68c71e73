use Rattle.acpi_term.proofs.Lengths.{width_holds, width_least, width_bounds, width_carries, width_four, limit_top}
use Rattle.acpi_term.proofs.laws.field_lengths_are_least.Goals as goal

pub returns : goal.returns
returns c = (width_holds, λ bits w lt. (width_least bits w lt, width_carries bits (width_bounds bits w lt)), width_four, limit_top)
