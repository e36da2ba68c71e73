use Rattle.std.proofs.Common.{◌≡◌, drop}
use Rattle.acpi_text.specs.Form.{find_choice}
use Rattle.acpi_text.proofs.part.find_choice.Given as goal

abbrev pub invariant-loop-choice : goal.invariant-loop-choice
invariant-loop-choice l = find_choice l.number (drop l.choice-index l.choices) ≡ find_choice l.number l.choices
