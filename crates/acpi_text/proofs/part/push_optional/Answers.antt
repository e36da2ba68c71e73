use Rattle.acpi_text.proofs.Parts.{showed_without}
use Rattle.acpi_text.proofs.part.push_optional.Goals as goal

pub returns-in-None : goal.returns-in-None
returns-in-None c = showed_without c.args.depth c.args.choice c.args.offset c.args.bytes.now _ c.in-None.is
