use Rattle.std.proofs.Common.{◌≡◌, drop}
use Rattle.acpi_make.specs.Lack.{known_choice}
use Rattle.acpi_make.proofs.lack.known_choice.Given as goal

abbrev pub invariant-choices : goal.invariant-choices
invariant-choices l = known_choice l.fn.by (drop l.choice-index l.choices) l.cells ≡ known_choice l.fn.by l.choices l.cells
