-- Paths: the segments of an object's name from the root on (ACPI 6.5, 5.3).
use Rattle.std.specs.Prelude.{ℕ, ◌-◌, ◌==◌, if◌then◌else◌, List, [], ◌∷◌, ◌++◌, length, take, drop}
use Rattle.acpi_read.specs.Lines.{segments_of}

-- the path of the scope in which an object is, or of the scope around a scope
abbrev pub parent : List ℕ → List ℕ
parent path = take (length path - 4) path

-- the path of a name in a scope: from the root after `\`, and in the scope around this one after `^` (ACPI 6.5, 5.3 and 20.2.2)
abbrev pub path_in : List ℕ → List ℕ → List ℕ
path_in scope [] = scope
path_in scope (b ∷ rest) =
    if b == 92 then segments_of rest
    else (if b == 94 then path_in (parent scope) rest else scope ++ segments_of (b ∷ rest))

-- the last segment of a name
abbrev pub last_segment : List ℕ → List ℕ
last_segment name = drop (length name - 4) name
