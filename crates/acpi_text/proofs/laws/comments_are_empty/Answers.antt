use Rattle.acpi_text.proofs.Comments.{comment_has}
use Rattle.acpi_text.proofs.laws.comments_are_empty.Goals as goal

pub returns : goal.returns
returns c = comment_has
