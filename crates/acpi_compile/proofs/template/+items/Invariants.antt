use Rattle.std.proofs.Common.{◌+◌, ◌*◌}
use Rattle.acpi_compile.proofs.template.+items.Given as goal

abbrev pub decreases-push_item : goal.decreases-push_item
decreases-push_item l = 2 * l.depth

abbrev pub decreases-push_items : goal.decreases-push_items
decreases-push_items l = 2 * l.depth + 1
