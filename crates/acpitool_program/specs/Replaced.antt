-- A file that would replace one of the files that are read for it.
use Rattle.std.specs.Prelude.{◌≡◌, ℕ, Bool, false, not, ◌&&◌, ◌||◌, List, [], ◌∷◌, ◌++◌, Option, codes}
use Rattle.std.specs.Str.{bytes_eq}
use Rattle.std.specs.Io.KnownBytes.{Appends}

-- whether two words are one path: `-` is no path
abbrev pub is_same_path : List ℕ → List ℕ → Bool
is_same_path one other = bytes_eq one other && not (bytes_eq one (codes "-"))

-- whether a word is one of these paths
abbrev pub is_path_among : List ℕ → List (List ℕ) → Bool
is_path_among word [] = false
is_path_among word (path ∷ paths) = is_same_path word path || is_path_among word paths

abbrev pub replaced_line : List ℕ → List ℕ → List ℕ
replaced_line what file = file ++ codes ": the " ++ what ++ codes " would replace a table\n"

-- The words or the system say that a file is one of the tables, which isn't touched, and a line says so.
pub record WouldReplace (what file : List ℕ) (err err' : Option (List ℕ)) (status : ℕ) : Type 0 where
  pub complained : Appends err err' (replaced_line what file)
  pub is : status ≡ 1
