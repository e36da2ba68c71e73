use Rattle.std.proofs.Common.{◌≡◌, length}
use Rattle.acpi_terms_text.specs.Objects.{has_segment}
use Rattle.acpi_terms_text.proofs.objects.has_segment.Given as goal

abbrev pub invariant-fours : goal.invariant-fours
invariant-fours l = has_segment l.rest l.segment ≡ has_segment l.bytes l.segment

abbrev pub decreases-fours : goal.decreases-fours
decreases-fours l = length l.rest
