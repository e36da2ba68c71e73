use Rattle.std.proofs.Common.{◌≡◌, drop}
use Rattle.acpi_asl.specs.Content.{all_hold}
use Rattle.acpi_asl.proofs.content.all_hold.Given as goal

abbrev pub invariant-checks : goal.invariant-checks
invariant-checks l = all_hold l.item (drop l.check-index l.checks) ≡ all_hold l.item l.checks
