-- The lines of a text.
use Rattle.std.specs.Prelude.{ℕ, suc, ◌==◌, if◌then◌else◌, List, [], ◌∷◌}
use Rattle.std.specs.List.{onto_first}

-- the lines of a text, without the line feeds that end them; the last line may have none
abbrev pub lines : List ℕ → List (List ℕ)
lines [] = []
lines (c ∷ text) = if c == 10 then [] ∷ lines text else onto_first c (lines text)

-- how many bytes are before the first line feed, or all
abbrev pub line_len : List ℕ → ℕ
line_len [] = 0
line_len (c ∷ text) = if c == 10 then 0 else suc (line_len text)
