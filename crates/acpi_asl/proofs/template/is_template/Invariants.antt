use Rattle.std.proofs.Common.{◌≡◌, false, length}
use Rattle.acpi_asl.specs.Template.{is_template}
use Rattle.acpi_asl.proofs.template.is_template.Given as goal

abbrev pub invariant-items : goal.invariant-items
invariant-items l = is_template false 0 l.bytes ≡ is_template l.inside 0 l.rest

abbrev pub decreases-items : goal.decreases-items
decreases-items l = length l.rest
