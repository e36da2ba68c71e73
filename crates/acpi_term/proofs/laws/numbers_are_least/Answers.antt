use Rattle.acpi_term.proofs.Lengths.{number_carries, number_top, number_least, number_shortest}
use Rattle.acpi_term.proofs.laws.numbers_are_least.Goals as goal

pub returns : goal.returns
returns c = (number_carries, λ v w lt. (number_top v w lt, number_least v w lt, number_shortest v w lt))
