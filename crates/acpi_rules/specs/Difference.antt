-- The fields in which two tables differ.
use Rattle.std.specs.Prelude.{◌≡◌, ◌⊎◌, ℕ, ◌+◌, ◌-◌, ◌<◌, ◌≤◌, ◌&&◌, Bool, true, false, if◌then◌else◌, List, [], ◌∷◌, ◌++◌}
use Rattle.std.specs.Prelude.{Option, Some, None, length, take, codes}
use Rattle.std.specs.Fmt.{decimal}
use Rattle.std.specs.List.{slice_get}
use Rattle.std.specs.Str.{bytes_eq}
use Rattle.acpi_text.specs.Hex.{number_text}
use Rattle.acpi_text.specs.Label.{label}
use Rattle.acpi_rules.specs.Field.{Field}

-- ---- two fields

abbrev pub has_same_name : Field → Field → Bool
has_same_name x y = bytes_eq x.name y.name

-- whether two fields have the same name and the same bytes; their offsets may differ
abbrev pub is_same : Field → Field → Bool
is_same x y = has_same_name x y && bytes_eq x.bytes y.bytes

-- the line of a field with its value in each table, or `none`
abbrev pub line : Field → List ℕ → List ℕ → List ℕ
line x first second =
    codes "at " ++ decimal x.offset ++ codes ": " ++ label x.name ++ codes ": " ++ first ++ codes ", " ++ second ++ 10 ∷ []

-- the bytes of a field in hexadecimal, the highest first
abbrev pub value : Field → List ℕ
value x = codes "0x" ++ number_text x.bytes

abbrev pub only_first : Field → List ℕ
only_first x = line x (value x) (codes "none")

abbrev pub only_second : Field → List ℕ
only_second y = line y (codes "none") (value y)

-- the lines of a field of each table: none if they are the same, one if they have the same name, and otherwise two
abbrev pub both : Field → Field → List ℕ
both x y = if is_same x y then [] else (if has_same_name x y then line x (value x) (value y) else only_first x ++ only_second y)

-- the lines of a field that both tables have, or one of them
abbrev pub either : Option Field → Option Field → List ℕ
either (Some x) (Some y) = both x y
either (Some x) None = only_first x
either None (Some y) = only_second y
either None None = []

-- ---- two tables

-- the lines of fields, pair by pair, and of those that only one table has
abbrev pub lines : List Field → List Field → List ℕ
lines [] [] = []
lines (x ∷ xs) [] = only_first x ++ lines xs []
lines [] (y ∷ ys) = only_second y ++ lines [] ys
lines (x ∷ xs) (y ∷ ys) = both x y ++ lines xs ys

-- whether the fields that stand before the last n of both tables are the same
abbrev pub same_or : Option Field → Option Field → Bool
same_or (Some x) (Some y) = is_same x y
same_or _ _ = false

abbrev pub same_before : List Field → List Field → ℕ → Bool
same_before xs ys n = same_or (slice_get xs (length xs - (n + 1))) (slice_get ys (length ys - (n + 1)))

-- the last n fields of both tables are the same, and those before them aren't, if both have one
pub record IsLongestEnd (xs ys : List Field) (n : ℕ) : Type 0 where
  pub first : n ≤ length xs
  pub second : n ≤ length ys
  pub same : (k : ℕ) → k < n → same_before xs ys k ≡ true
  pub longest : (n ≡ length xs) ⊎ (n ≡ length ys) ⊎ (same_before xs ys n ≡ false)

-- The lines of two tables: those of the fields before the ones that both end with. So what a table has in its midst, and the
-- other doesn't have, has lines of its own, and what follows it has none.
pub record AreLines (xs ys : List Field) (text : List ℕ) : Type 0 where
  pub end : ℕ
  pub longest : IsLongestEnd xs ys end
  pub are : text ≡ lines (take (length xs - end) xs) (take (length ys - end) ys)
