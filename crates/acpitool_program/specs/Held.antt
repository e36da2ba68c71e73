-- Tables that aren't written without force.
use Rattle.std.specs.Prelude.{ℕ, List, ◌++◌, codes}

-- the line on such a table, after those that say what is wrong with it
abbrev pub held_line : List ℕ → List ℕ
held_line name = name ++ codes ": not written (make --force writes it)\n"
