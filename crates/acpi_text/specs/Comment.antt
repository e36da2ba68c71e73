-- Comments: lines that have no bytes.
use Rattle.std.specs.Prelude.{◌==◌, ℕ, Bool, true, if◌then◌else◌, List, [], ◌∷◌, ◌++◌, codes}

-- a text with two slashes and a space before each line, from where a line begins or from within one
abbrev pub commented : Bool → List ℕ → List ℕ
commented begins [] = if begins then [] else 10 ∷ []
commented begins (c ∷ text) = (if begins then codes "// " else []) ++ (c ∷ commented (c == 10) text)

-- the lines of a text as comments
abbrev pub comment : List ℕ → List ℕ
comment text = commented true text
