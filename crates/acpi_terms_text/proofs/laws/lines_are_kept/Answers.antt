use Rattle.acpi_terms_text.proofs.Kept.{lines_kept}
use Rattle.acpi_terms_text.proofs.laws.lines_are_kept.Goals as goal

pub returns : goal.returns
returns c = lines_kept
