use Rattle.std.proofs.Common.{◌≡◌, ◌*◌, ◌++◌, string_bytes}
use Rattle.acpi_text.specs.Line.{spaces}
use Rattle.acpi_text.proofs.space.push_level.Given as goal

abbrev pub invariant-levels : goal.invariant-levels
invariant-levels l = string_bytes l.text ++ spaces (2 * l.left) ≡ string_bytes l.initial.text ++ spaces (2 * l.depth)

abbrev pub decreases-levels : goal.decreases-levels
decreases-levels l = l.left
