use Rattle.std.proofs.Common.{◌≡◌, ◌++◌, ℕ, suc, true, List, Option, Some, None, length, take}
use Rattle.std.specs.List.{concat}
use Rattle.std.specs.Option.{option_map}
use denote.Bor.{Bor}
use Rattle.acpi_term.specs.PathText.{parts, are_fours}
use Rattle.acpi_c_calls.specs.Path.{following}
use Rattle.acpi_c_calls.proofs.path.hold_parts.Given as goal

abbrev left : Option (Bor (List ℕ)) → ℕ
left None = 0
left (Some rest) = suc (length rest.now)

abbrev pub invariant-parts : goal.invariant-parts
invariant-parts l =
    (take 1024 (l.held ++ concat (following (option_map (λ rest. rest.now) l.rest))) ≡ take 1024 (l.initial.held ++ concat (parts l.text)))
    × (are_fours (following (option_map (λ rest. rest.now) l.rest)) ≡ true)

abbrev pub decreases-parts : goal.decreases-parts
decreases-parts l = left l.rest
