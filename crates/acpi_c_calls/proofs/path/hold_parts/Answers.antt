use Rattle.std.proofs.Common.{◌≡◌, ◌++◌, ◌∷◌, true, take, rules}
use Rattle.std.specs.List.{concat}
use Rattle.std.specs.Option.{option_map}
use Rattle.acpi_term.specs.PathText.{parts, are_fours}
use Rattle.acpi_c_calls.specs.Path.{following}
use Rattle.acpi_c_calls.proofs.Paths.{next_part}
use Rattle.acpi_c_calls.proofs.path.hold_parts.Goals as goal

pub parts-preserved : goal.parts-preserved
parts-preserved c =
    let before : take 1024 (c.parts.held ++ concat (parts c.in-Some.text.now)) ≡ take 1024 (c.args.held.now ++ concat (parts c.args.text.now)) = search rules in
    let fours : are_fours (parts c.in-Some.text.now) ≡ true = search rules in
    let split : parts c.in-Some.text.now ≡ c.in-Some-first_part.part.now ∷ following (option_map (λ rest. rest.now) c.in-Some-first_part.more) = search rules in
    next_part c.parts.held c.add.new.self _ _ _ _ split c.add.ensures before fours
