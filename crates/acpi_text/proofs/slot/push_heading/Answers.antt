use Rattle.std.proofs.Common.{rules}
use Rattle.acpi_text.proofs.Shown.{showed_none}
use Rattle.acpi_text.proofs.slot.push_heading.Goals as goal

pub returns-else-not-is_empty : goal.returns-else-not-is_empty
returns-else-not-is_empty c = showed_none _ c.args.offset c.args.bytes.now _ (search rules)
