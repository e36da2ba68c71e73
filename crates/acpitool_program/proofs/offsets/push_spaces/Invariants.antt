use Rattle.std.proofs.Common.{◌≡◌, ◌++◌}
use Rattle.acpi_text.specs.Line.{spaces}
use Rattle.acpitool_program.proofs.offsets.push_spaces.Given as goal

abbrev pub invariant-spaces : goal.invariant-spaces
invariant-spaces l = l.text.items ++ spaces l.left ≡ l.initial.text.items ++ spaces l.count

abbrev pub decreases-spaces : goal.decreases-spaces
decreases-spaces l = l.left
