use Rattle.std.proofs.Common.{◌≡◌, drop}
use Rattle.acpi_rules.specs.Reference.{contains}
use Rattle.acpi_rules.proofs.reference.contains.Given as goal

abbrev pub invariant-numbers : goal.invariant-numbers
invariant-numbers l = contains (drop l.one-index l.numbers) l.number ≡ contains l.numbers l.number
