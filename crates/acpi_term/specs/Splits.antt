-- The spelling as a relation on cut bytes.
use Rattle.std.specs.Prelude.{◌≡◌, ℕ, List, [], ◌++◌}
use Rattle.acpi_term.specs.declared.mode.Mode.{Mode}
use Rattle.acpi_term.specs.Language.{Grammar}
use Rattle.acpi_term.specs.Tree.{Terms, end, term, count}
use Rattle.acpi_term.specs.Spelling.{spelled, inner, next, IsLegal}

-- The bytes can be cut into those of the first term and those of the others. The first term's bytes are its row over those of its
-- children.
abbrev pub SplitsIn : Grammar → Mode → List ℕ → Terms → Type 0
SplitsIn g m bytes end = bytes ≡ []
SplitsIn g m bytes (term h w children others) =
    (first rest inside : List ℕ) × (bytes ≡ first ++ rest) × (first ≡ spelled h w (count children) inside)
    × IsLegal g m h w (count children) inside
    × SplitsIn g (inner g.language h) inside children × SplitsIn g (next m) rest others
