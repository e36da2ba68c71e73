-- Paths of objects (ACPI 6.5, 5.3), and their index.
use Rattle.std.specs.Prelude.{◌≡◌, ℕ, suc, ◌+◌, ◌*◌, ◌%◌, ◌==◌, ◌||◌, if◌then◌else◌, Bool, false}
use Rattle.std.specs.Prelude.{List, [], ◌∷◌, ◌++◌, map, Option, Some, None}
use Rattle.std.specs.BTreeMap.{BTreeMap, get}
use Rattle.std.specs.Ordering.{nat_cmp}
use Rattle.std.specs.Str.{bytes_eq}
use Rattle.acpi_asl.specs.declared.paths.Entry.{Entry}

-- whether one of the paths is this one
abbrev pub has : List (List ℕ) → List ℕ → Bool
has [] path = false
has (p ∷ all) path = bytes_eq p path || has all path

-- ---- the index

abbrev pub path_of : Entry → List ℕ
path_of e = e.path.items

-- the key of bytes and a further one
abbrev pub next_key : ℕ → ℕ → ℕ
next_key k b = (k * 31 + b) % 0x100000000

-- the key of bytes after those of which this is the key
abbrev pub key_from : ℕ → List ℕ → ℕ
key_from k [] = k
key_from k (b ∷ path) = key_from (next_key k b) path

-- the number by which a path is found
abbrev pub key : List ℕ → ℕ
key path = key_from 0 path

-- a place among those after one, or that of this one
abbrev pub or_here : Option ℕ → Bool → Option ℕ
or_here (Some place) here = Some (suc place)
or_here None here = if here then Some 0 else None

-- the place of the last path with this key
abbrev pub latest : List (List ℕ) → ℕ → Option ℕ
latest [] k = None
latest (p ∷ all) k = or_here (latest all k) (key p == k)

-- Entries after these paths: each has the place of the last path before it that has the same key.
abbrev pub AreLinked : List (List ℕ) → List Entry → Type 0
AreLinked before [] = Unit {0}
AreLinked before (e ∷ all) =
    (e.before ≡ latest before (key (path_of e))) × AreLinked (before ++ path_of e ∷ []) all

-- The index has the place of the last path for each key.
pub record IsIndexed (index : BTreeMap ℕ ℕ) (all : List Entry) : Type 0 where
  pub found : (k : ℕ) → get nat_cmp index k ≡ latest (map path_of all) k
  pub linked : AreLinked [] all
