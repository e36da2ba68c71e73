-- Objects that stand in a line each, as the elements of an array.
use Rattle.std.specs.Prelude.{ℕ, ◌==◌, Bool, false, if◌then◌else◌, List, [], ◌∷◌, ◌++◌, codes}

-- what stands between the end of a line and the next one, if a line ended
abbrev pub between : Bool → List ℕ
between ended = if ended then codes ",\n" else []

-- a byte, unless it ends a line
abbrev pub unended : ℕ → List ℕ
unended c = if c == 10 then [] else c ∷ []

-- lines, with a comma at the end of each but the last. `ended` says whether a line ended before.
abbrev pub with_commas : Bool → List ℕ → List ℕ
with_commas ended [] = if ended then codes "\n" else []
with_commas ended (c ∷ lines) = between ended ++ unended c ++ with_commas (c == 10) lines

-- the array of the lines
abbrev pub array : List ℕ → List ℕ
array lines = codes "[\n" ++ with_commas false lines ++ codes "]\n"
