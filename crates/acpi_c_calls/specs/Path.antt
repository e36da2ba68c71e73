-- The parts of a path that follow a part.
use Rattle.std.specs.Prelude.{ℕ, List, [], Option, Some, None}
use Rattle.acpi_term.specs.PathText.{parts}

-- the parts after a dot, or none where there is no dot
abbrev pub following : Option (List ℕ) → List (List ℕ)
following None = []
following (Some text) = parts text
