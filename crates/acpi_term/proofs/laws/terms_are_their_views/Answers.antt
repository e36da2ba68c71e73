use Rattle.acpi_term.proofs.Equals.{terms_equal}
use Rattle.acpi_term.proofs.laws.terms_are_their_views.Goals as goal

pub returns : goal.returns
returns c = terms_equal
