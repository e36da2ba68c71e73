-- Tables of words by their numbers.
use Rattle.std.specs.Prelude.{ℕ, ◌==◌, if◌then◌else◌, List, [], ◌∷◌}

-- the word in the first row with a number, or nothing
abbrev pub word_in : List (ℕ × List ℕ) → ℕ → List ℕ
word_in [] n = []
word_in (row ∷ rows) n = if row.0 == n then row.1 else word_in rows n
