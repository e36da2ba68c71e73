-- The lines of a text.
use Rattle.std.specs.Prelude.{ℕ, zero, suc, ◌+◌, ◌-◌, ◌*◌, List, [], ◌∷◌, ◌++◌, length}
use Rattle.std.specs.Fmt.{decimal}
use Rattle.acpi_text.specs.Hex.{numbers_text}
use Rattle.acpi_text.specs.Label.{label}
use Rattle.acpi_base.specs.Look.{Look}
use Rattle.acpi_text.specs.Note.{meaning}

-- ---- columns

abbrev pub spaces : ℕ → List ℕ
spaces zero = []
spaces (suc n) = 32 ∷ spaces n

-- spaces after a text, as far as a column
abbrev pub padded : ℕ → List ℕ → List ℕ
padded column text = text ++ spaces (column - length text)

-- what a line begins with: two spaces and two more for each level, an offset in decimal, and a name
abbrev pub margin : ℕ → ℕ → List ℕ → List ℕ
margin depth offset name = spaces (2 * depth + 2) ++ (decimal offset ++ 32 ∷ label name)

-- ---- lines

-- a field at an offset: its name, its n numbers of w bytes, and what they mean
abbrev pub line : ℕ → ℕ → List ℕ → Look → ℕ → ℕ → List ℕ → List ℕ
line depth offset name look w n field =
    padded 40 (margin depth offset name) ++ (58 ∷ (numbers_text w n field ++ (meaning look w n field ++ 10 ∷ [])))

-- a name over the lines of a level
abbrev pub title : ℕ → ℕ → List ℕ → List ℕ
title depth offset name = margin depth offset name ++ 10 ∷ []
