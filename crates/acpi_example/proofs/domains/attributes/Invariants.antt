use Rattle.std.proofs.Common.{◌≡◌, length}
use Rattle.acpi_example.proofs.domains.attributes.Given as goal

abbrev pub invariant-domains : goal.invariant-domains
invariant-domains l = length l.table.table.table.structures ≡ l.domain
