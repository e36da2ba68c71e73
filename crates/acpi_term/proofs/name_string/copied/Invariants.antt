use Rattle.std.proofs.Common.{◌≡◌, take}
use Rattle.acpi_term.proofs.name_string.copied.Given as goal

abbrev pub invariant-counts : goal.invariant-counts
invariant-counts l = l.copies.items ≡ take l.name-index l.counts
