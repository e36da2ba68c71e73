-- The offset of a line.
use Rattle.std.specs.Prelude.{ℕ, List, [], ◌∷◌, ◌++◌}
use Rattle.std.specs.Fmt.{decimal}

-- what stands before the name of a line of the first level: two spaces, the offset in decimal, and a space
abbrev pub before_name : ℕ → List ℕ
before_name offset = 32 ∷ (32 ∷ (decimal offset ++ 32 ∷ []))
