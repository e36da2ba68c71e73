use Rattle.std.proofs.Common.{◌≡◌, drop}
use Rattle.acpi_rules.specs.Terminated.{has_zero}
use Rattle.acpi_rules.proofs.terminated.has_zero.Given as goal

abbrev pub invariant-bytes : goal.invariant-bytes
invariant-bytes l = has_zero (drop l.byte-index l.bytes) ≡ has_zero l.bytes
