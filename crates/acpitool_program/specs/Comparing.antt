-- The fields in which the tables in two files differ.
use Rattle.std.specs.Prelude.{◌≡◌, ◌≢◌, ◌⊎◌, ℕ, ◌-◌, if◌then◌else◌, List, [], ◌∷◌, ◌++◌, length, map, take, drop, Option, codes}
use Rattle.std.specs.Str.{bytes_eq}
use Rattle.std.specs.Io.KnownBytes.{Keeps, Appends}
use Rattle.acpi_forms.specs.Kind.{kind_of, title_of}
use Rattle.acpi_read.specs.Report.{printable}
use Rattle.acpi_rules.specs.Difference.{AreLines}
use Rattle.acpi_rules.specs.Field.{Field}
use Rattle.acpitool_program.specs.Fault.{line_of}
use Rattle.acpitool_program.specs.Fields.{AreFields}
use Rattle.acpitool_program.specs.Listing.{NotRead}
use Rattle.acpitool_program.specs.Text.{IsKind, IsTextFault}
use Rattle.acpitool_program.specs.declared.fault.Fault.{Fault}

-- ---- two tables

-- the line of tables with different signatures, in which a question mark stands for what doesn't print
abbrev pub signatures_line : List ℕ → List ℕ → List ℕ
signatures_line a b =
    codes "the signatures differ: " ++ map printable (title_of a) ++ codes ", " ++ map printable (title_of b) ++ 10 ∷ []

-- the bytes that no field has: those before the first field, between fields, and after the last. `total` is how many bytes the
-- table has, of which `rest` are left.
abbrev pub nameless_in : ℕ → List Field → List ℕ → List ℕ
nameless_in total [] rest = rest
nameless_in total (field ∷ fields) rest =
    let before = field.offset - (total - length rest) in
    take before rest ++ nameless_in total fields (drop (length field.bytes) (drop before rest))

abbrev pub nameless : List Field → List ℕ → List ℕ
nameless fields table = nameless_in (length table) fields table

abbrev pub nameless_line : List ℕ
nameless_line = codes "bytes without a name differ\n"

-- the line of tables in which these bytes have no name
abbrev pub nameless_lines : List ℕ → List ℕ → List ℕ
nameless_lines a b = if bytes_eq a b then [] else nameless_line

-- the lines of tables that differ: one at least
abbrev pub or_nameless : List ℕ → List ℕ
or_nameless [] = nameless_line
or_nameless (c ∷ lines) = c ∷ lines

-- the lines of two tables whose fields are these
pub record AreDifferences (a b text : List ℕ) : Type 0 where
  pub first : List Field
  pub second : List Field
  pub lines : List ℕ
  pub has_first : AreFields a first
  pub has_second : AreFields b second
  pub differ : AreLines first second lines
  pub is : text ≡ or_nameless (lines ++ nameless_lines (nameless first a) (nameless second b))

-- What is printed of two tables: nothing if they are the same, and only then. Otherwise it is a line on their signatures if these
-- differ, or else the lines of their fields.
abbrev pub IsComparison : List ℕ → List ℕ → List ℕ → Type 0
IsComparison a b text =
    ((a ≡ b) × (text ≡ []))
    ⊎ ((a ≢ b) × (title_of a ≢ title_of b) × (text ≡ signatures_line a b))
    ⊎ ((a ≢ b) × (title_of a ≡ title_of b) × AreDifferences a b text)

-- 0 if nothing is printed, and 1 otherwise
abbrev pub comparison_status : List ℕ → ℕ
comparison_status [] = 0
comparison_status (c ∷ text) = 1

-- ---- two files

-- both files are what their signatures say, and were compared
pub record AreCompared (a b : List ℕ) (out out' err err' : Option (List ℕ)) (status : ℕ) : Type 0 where
  pub first : IsKind (kind_of a) a
  pub second : IsKind (kind_of b) b
  pub text : List ℕ
  pub compared : IsComparison a b text
  pub wrote : Appends out out' text
  pub silent : Keeps err err'
  pub is : status ≡ comparison_status text

-- a file isn't what its signature says, and a line says why
pub record NotCompared (name bytes : List ℕ) (out out' err err' : Option (List ℕ)) (status : ℕ) : Type 0 where
  pub fault : Fault
  pub cause : IsTextFault bytes fault
  pub complained : Appends err err' (name ++ codes ": " ++ line_of fault ++ 10 ∷ [])
  pub silent : Keeps out out'
  pub is : status ≡ 1

-- what comes of the bytes of two files
abbrev pub ComparesBytes : List ℕ → List ℕ → List ℕ → List ℕ
    → Option (List ℕ) → Option (List ℕ) → Option (List ℕ) → Option (List ℕ) → ℕ → Type 0
ComparesBytes first a second b out out' err err' status =
    AreCompared a b out out' err err' status ⊎ NotCompared first a out out' err err' status
    ⊎ NotCompared second b out out' err err' status

-- what comes of bytes and a second file: the system says which bytes it has
abbrev pub ComparesWith : List ℕ → List ℕ → List ℕ
    → Option (List ℕ) → Option (List ℕ) → Option (List ℕ) → Option (List ℕ) → ℕ → Type 0
ComparesWith first a second out out' err err' status =
    ((b : List ℕ) × ComparesBytes first a second b out out' err err' status) ⊎ NotRead second out out' err err' status

-- what comes of `diff FILE FILE`
abbrev pub Compares : List ℕ → List ℕ → Option (List ℕ) → Option (List ℕ) → Option (List ℕ) → Option (List ℕ) → ℕ → Type 0
Compares first second out out' err err' status =
    ((a : List ℕ) × ComparesWith first a second out out' err err' status) ⊎ NotRead first out out' err err' status
