-- The numbers that a structure has of those within it, and that these have of themselves.
use Rattle.std.specs.Prelude.{ℕ, ◌+◌, ◌-◌, ◌/◌, ◌==◌, if◌then◌else◌, List, [], ◌∷◌, ◌++◌, Option, Some, None}
use Rattle.std.specs.List.{flat_map}
use Rattle.acpi_text.specs.declared.form.Count.{Count}
use Rattle.acpi_text.specs.declared.form.Count.TheVariants as counts
use Rattle.acpi_text.specs.declared.form.Inner.{Inner}
use Rattle.acpi_text.specs.declared.form.Inner.TheVariants.{Nothing, Lists}
use Rattle.acpi_text.specs.declared.form.InnerForm.{InnerForm}
use Rattle.acpi_text.specs.declared.form.InnerList.{InnerList}
use Rattle.acpi_text.specs.declared.form.InnerSize.{InnerSize}
use Rattle.acpi_text.specs.declared.form.InnerSize.TheVariants.{Walked, Counted, Rest}
use Rattle.acpi_make.specs.Entry.{is_line_of, or_else}
use Rattle.acpi_make.specs.Extent.{own_at, size_own}
use Rattle.acpi_make.specs.Text.{part_at, after_offset}
use Rattle.acpi_make.specs.declared.draft.Mark.{Mark}
use Rattle.acpi_make.specs.declared.draft.Mark.TheVariants.{Structure, Line, Reference}
use Rattle.acpi_make.specs.declared.extent.Own.{Own}

-- ---- names

-- the first form whose name a line is
abbrev pub titled_in : List ℕ → List InnerForm → Option InnerForm
titled_in line [] = None
titled_in line (form ∷ forms) = if is_line_of form.name.now line then Some form else titled_in line forms

abbrev pub titled : List ℕ → List InnerList → Option InnerForm
titled line [] = None
titled line (list ∷ lists) = or_else (titled_in line list.forms.now) (titled line lists)

-- one offset if a line is a name, and otherwise another
abbrev pub titled_at : Option InnerForm → ℕ → ℕ → ℕ
titled_at (Some form) at other = at
titled_at None at other = other

-- the offset of the next structure within, or of the next structure, or that of the table's end
abbrev pub next_titled : List ℕ → List InnerList → List Mark → ℕ → ℕ
next_titled text lists [] total = total
next_titled text lists (Structure at from to ∷ marks) total = at
next_titled text lists (Line at from to ∷ marks) total =
    titled_at (titled (after_offset (part_at from to text)) lists) at (next_titled text lists marks total)
next_titled text lists (Reference at w from to ∷ marks) total = next_titled text lists marks total

-- ---- lengths

-- The length of a structure within another, if it has a field for it; or how many entries it has after its first n bytes.
abbrev pub inner_size_own : InnerSize → ℕ → ℕ → List Own
inner_size_own (Walked sizes) start size = size_own sizes start size
inner_size_own (Counted n count each) start size = if each == 0 then [] else own_at start size count ((size - n) / each)
inner_size_own Rest start size = []

abbrev pub titled_own : Option InnerForm → ℕ → ℕ → List Own
titled_own (Some form) start size = inner_size_own form.size start size
titled_own None start size = []

-- those of all structures within, up to the next structure
abbrev pub inners_own : List ℕ → List InnerList → List Mark → ℕ → List Own
inners_own text lists [] total = []
inners_own text lists (Structure at from to ∷ marks) total = []
inners_own text lists (Line at from to ∷ marks) total =
    titled_own (titled (after_offset (part_at from to text)) lists) at (next_titled text lists marks total - at)
    ++ inners_own text lists marks total
inners_own text lists (Reference at w from to ∷ marks) total = inners_own text lists marks total

-- ---- numbers of structures

abbrev pub counted : Option InnerForm → ℕ
counted (Some form) = 1
counted None = 0

-- how many structures of these forms there are, up to the next structure
abbrev pub count_titled : List ℕ → List InnerForm → List Mark → ℕ
count_titled text forms [] = 0
count_titled text forms (Structure at from to ∷ marks) = 0
count_titled text forms (Line at from to ∷ marks) =
    counted (titled_in (after_offset (part_at from to text)) forms) + count_titled text forms marks
count_titled text forms (Reference at w from to ∷ marks) = count_titled text forms marks

-- the number that the outer structure has of those of a list
abbrev pub list_own : List ℕ → List Mark → ℕ → ℕ → List InnerForm → Count → List Own
list_own text marks start size forms (counts.Field place) = own_at start size place (count_titled text forms marks)
list_own text marks start size forms counts.Rest = []
list_own text marks start size forms counts.Once = []

abbrev pub lists_own : List ℕ → List Mark → ℕ → ℕ → List InnerList → List Own
lists_own text marks start size lists = flat_map (λ list. list_own text marks start size list.forms.now list.count) lists

-- ---- all of them

abbrev pub inner_own : List ℕ → List Mark → ℕ → ℕ → ℕ → Inner → List Own
inner_own text marks total start size Nothing = []
inner_own text marks total start size (Lists first lists) =
    lists_own text marks start size lists.now ++ inners_own text lists.now marks total
