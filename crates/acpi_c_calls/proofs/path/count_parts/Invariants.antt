use Rattle.std.proofs.Common.{◌≡◌, ◌+◌, ◌≤◌, ℕ, suc, List, Option, Some, None, length}
use Rattle.std.specs.Option.{option_map}
use denote.Bor.{Bor}
use Rattle.acpi_term.specs.PathText.{parts, are_fours}
use Rattle.acpi_c_calls.specs.Path.{following}
use Rattle.acpi_c_calls.proofs.path.count_parts.Given as goal

abbrev left : Option (Bor (List ℕ)) → ℕ
left None = 0
left (Some rest) = suc (length rest.now)

abbrev pub invariant-parts : goal.invariant-parts
invariant-parts l =
    (l.count + length (following (option_map (λ rest. rest.now) l.rest)) ≡ length (parts l.text)) × (are_fours (following (option_map (λ rest. rest.now) l.rest)) ≡ are_fours (parts l.text))
    × (l.count + left l.rest ≤ suc (length l.text))

abbrev pub decreases-parts : goal.decreases-parts
decreases-parts l = left l.rest
