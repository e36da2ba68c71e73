use Rattle.std.proofs.Common.{◌≡◌, drop}
use Rattle.acpi_rules.specs.Rules.{all_zero}
use Rattle.acpi_rules.proofs.rules.all_zero.Given as goal

abbrev pub invariant-bytes : goal.invariant-bytes
invariant-bytes l = all_zero (drop l.byte-index l.bytes) ≡ all_zero l.bytes
