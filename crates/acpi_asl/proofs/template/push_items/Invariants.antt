use Rattle.std.proofs.Common.{◌≡◌, ◌++◌, false, length, string_bytes}
use Rattle.acpi_asl.specs.Template.{items_text}
use Rattle.acpi_asl.proofs.template.push_items.Given as goal

abbrev pub invariant-items : goal.invariant-items
invariant-items l = string_bytes l.text ++ items_text l.tags l.depth l.inside 0 l.rest ≡ string_bytes l.initial.text ++ items_text l.tags l.depth false 0 l.bytes

abbrev pub decreases-items : goal.decreases-items
decreases-items l = length l.rest
