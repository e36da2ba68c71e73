use Rattle.std.proofs.Common.{◌≡◌, max, drop}
use Rattle.acpi_rules.specs.Across.{greatest}
use Rattle.acpi_rules.proofs.across.greatest.Given as goal

abbrev pub invariant-numbers : goal.invariant-numbers
invariant-numbers l = max l.most (greatest (drop l.number-index l.numbers)) ≡ greatest l.numbers
