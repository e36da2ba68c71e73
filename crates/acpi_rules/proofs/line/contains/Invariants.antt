use Rattle.std.proofs.Common.{◌≡◌, drop}
use Rattle.acpi_rules.specs.Line.{contains}
use Rattle.acpi_rules.proofs.line.contains.Given as goal

abbrev pub invariant-signatures : goal.invariant-signatures
invariant-signatures l = contains (drop l.one-index l.signatures) l.signature ≡ contains l.signatures l.signature
