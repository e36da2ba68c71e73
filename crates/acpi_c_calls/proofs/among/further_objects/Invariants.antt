use Rattle.std.proofs.Common.{length, map}
use Rattle.acpi_terms_text.specs.Objects.{callee_by}
use Rattle.acpi_c_calls.proofs.Amongs.{After}
use Rattle.acpi_c_calls.proofs.among.further_objects.Given as goal

abbrev pub invariant-tables : goal.invariant-tables
invariant-tables l = After l.stated l.bytes l.rest (map callee_by l.all.items)

abbrev pub decreases-tables : goal.decreases-tables
decreases-tables l = length l.rest
