use Rattle.std.proofs.Common.{◌≡◌, drop}
use Rattle.acpi_rules.specs.Sibling.{own_start}
use Rattle.acpi_rules.proofs.sibling.own_start.Given as goal

abbrev pub invariant-starts : goal.invariant-starts
invariant-starts l = own_start l.own (drop l.start-index l.starts) l.at ≡ own_start 0 l.starts l.at
