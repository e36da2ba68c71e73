use Rattle.std.proofs.Common.{◌≡◌, drop}
use Rattle.acpi_dump.specs.Line.{ends_in_address}
use Rattle.acpi_dump.proofs.line.ends_in_address.Given as goal

abbrev pub invariant-places : goal.invariant-places
invariant-places l = ends_in_address (drop l.at l.text) ≡ ends_in_address l.text
