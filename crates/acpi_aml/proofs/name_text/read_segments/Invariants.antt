use Rattle.std.specs.List.{concat}
use Rattle.std.proofs.Common.{◌≡◌, ◌++◌, ◌+◌, ◌≤◌, length}
use Rattle.acpi_term.specs.PathText.{parts, are_fours}
use Rattle.acpi_aml.proofs.name_text.read_segments.Given as goal

abbrev pub invariant-loop-rest : goal.invariant-loop-rest
invariant-loop-rest l =
    (l.segments.items ++ concat (parts l.rest) ≡ l.initial.segments.items ++ concat (parts l.text)) × (l.count + length (parts l.rest) ≡ length (parts l.text))
    × (are_fours (parts l.rest) ≡ are_fours (parts l.text)) × (l.count + length l.rest ≤ length l.text)

abbrev pub decreases-loop-rest : goal.decreases-loop-rest
decreases-loop-rest l = length l.rest
