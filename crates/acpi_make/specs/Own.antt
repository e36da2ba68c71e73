-- The numbers that a table has of itself.
use Rattle.std.specs.Prelude.{ℕ, ◌+◌, ◌-◌, ◌==◌, Bool, true, false, if◌then◌else◌, List, []}
use Rattle.std.specs.Prelude.{◌∷◌, ◌++◌, length, drop}
use Rattle.std.specs.Prelude.{◌≡◌, Option, Some, None, Result, Ok, Err}
use Rattle.std.specs.BTreeMap.{BTreeMap, get_by}
use Rattle.std.specs.Cmp.Lexicographic.{slice_cmp}
use Rattle.std.specs.Ordering.{nat_cmp}
use denote.Ref.{Bor}
use Rattle.acpi_base.specs.declared.walk.Place.{Place}
use Rattle.acpi_base.specs.declared.walk.Sizes.{Sizes}
use Rattle.acpi_base.specs.declared.walk.Walk.{Walk}
use Rattle.acpi_text.specs.Structure.{all_forms, form_parts, form_inner}
use Rattle.acpi_text.specs.declared.form.Count.{Count}
use Rattle.acpi_text.specs.declared.form.Count.TheVariants.{Field, Rest, Once}
use Rattle.acpi_text.specs.declared.form.Part.{Part}
use Rattle.acpi_text.specs.declared.form.Part.TheVariants.{Fields, Between, Group, Entries, Numbers, Matrix, Bytes, Until, Chosen}
use Rattle.acpi_text.specs.declared.form.Part.TheVariants.{BySize}
use Rattle.acpi_text.specs.declared.form.StructureForm.{StructureForm}
use Rattle.acpi_make.specs.Draft.{is_nameless}
use Rattle.acpi_make.specs.Entry.{is_line_of, or_else}
use Rattle.acpi_make.specs.Fits.{fits}
use Rattle.acpi_make.specs.Gives.{with_front}
use Rattle.acpi_make.specs.Heading.{label_of, structure_form}
use Rattle.acpi_make.specs.Text.{part_at, after, after_offset}
use Rattle.acpi_make.specs.declared.draft.Mark.{Mark}
use Rattle.acpi_make.specs.declared.draft.Mark.TheVariants.{Structure, Line, Reference}
use Rattle.acpi_make.specs.Source.{Source}
use Rattle.acpi_make.specs.Fault.{Fault, fault}
use Rattle.acpi_make.specs.declared.fault.Wanted.TheVariants.{Label}
use Rattle.acpi_make.specs.declared.item.Cell.{Cell}
use Rattle.acpi_make.specs.declared.extent.Own.{Own}
use Rattle.acpi_make.specs.Extent.{own, own_at, size_own}
use Rattle.acpi_make.specs.Inner.{inner_own}

-- ---- structures

-- the offset of the next structure, or that of the table's end
abbrev pub next_start : List Mark → ℕ → ℕ
next_start [] total = total
next_start (Structure at from to ∷ marks) total = at
next_start (Line at from to ∷ marks) total = next_start marks total
next_start (Reference at w from to ∷ marks) total = next_start marks total

abbrev pub count_structures : List Mark → ℕ
count_structures [] = 0
count_structures (Structure at from to ∷ marks) = 1 + count_structures marks
count_structures (Line at from to ∷ marks) = count_structures marks
count_structures (Reference at w from to ∷ marks) = count_structures marks

-- the lengths of all structures
abbrev pub sizes_own : Sizes → List Mark → ℕ → List Own
sizes_own sizes [] total = []
sizes_own sizes (Structure at from to ∷ marks) total =
    size_own sizes at (next_start marks total - at) ++ sizes_own sizes marks total
sizes_own sizes (Line at from to ∷ marks) total = sizes_own sizes marks total
sizes_own sizes (Reference at w from to ∷ marks) total = sizes_own sizes marks total

-- the number of structures, and the offset of the first
abbrev pub all_own : Walk → List Mark → ℕ → List Own
all_own walk marks total =
    own_at 0 (next_start marks total) walk.count (count_structures marks)
    ++ own_at 0 (next_start marks total) walk.first (next_start marks total)

-- these, if there are structures, and the lengths of structures
abbrev pub walk_own : Option Walk → List Mark → ℕ → List Own
walk_own None marks total = []
walk_own (Some walk) marks total =
    (if count_structures marks == 0 then [] else all_own walk marks total) ++ sizes_own walk.sizes marks total

-- These, if there are no structures. There is no note on them: a table may have another offset then, and it may have structures
-- of which the size isn't known.
abbrev pub none_own : Option Walk → List Mark → ℕ → List Own
none_own None marks total = []
none_own (Some walk) marks total = if count_structures marks == 0 then all_own walk marks total else []

-- ---- what a structure contains

-- how many lines of a structure have a name, up to the next structure
abbrev pub count_lines : List ℕ → List ℕ → List Mark → ℕ
count_lines text name [] = 0
count_lines text name (Structure at from to ∷ marks) = 0
count_lines text name (Line at from to ∷ marks) =
    if is_line_of name (after_offset (part_at from to text)) then 1 + count_lines text name marks else count_lines text name marks
count_lines text name (Reference at w from to ∷ marks) = count_lines text name marks

-- the offset of the next line, or that of the table's end
abbrev pub next_line : List Mark → ℕ → ℕ
next_line [] total = total
next_line (Structure at from to ∷ marks) total = at
next_line (Line at from to ∷ marks) total = at
next_line (Reference at w from to ∷ marks) total = next_line marks total

-- the offsets at which the first line with a name begins and ends, up to the next structure
abbrev pub find_line : List ℕ → List ℕ → List Mark → ℕ → Option (ℕ × ℕ)
find_line text name [] total = None
find_line text name (Structure at from to ∷ marks) total = None
find_line text name (Line at from to ∷ marks) total =
    if is_line_of name (after_offset (part_at from to text))
    then Some (at, next_line marks total)
    else find_line text name marks total
find_line text name (Reference at w from to ∷ marks) total = find_line text name marks total

abbrev pub count_own : List ℕ → List Mark → ℕ → ℕ → List ℕ → Count → List Own
count_own text marks start size name (Field place) = own_at start size place (count_lines text name marks)
count_own text marks start size name Rest = []
count_own text marks start size name Once = []

abbrev pub length_own : ℕ → ℕ → Place → Option (ℕ × ℕ) → List Own
length_own start size place (Some found) = own_at start size place (found.1 - found.0)
length_own start size place None = []

abbrev pub end_own : ℕ → ℕ → Place → Option (ℕ × ℕ) → List Own
end_own start size place (Some found) = own_at start size place (found.1 - start)
end_own start size place None = []

-- the name of a part's lines
abbrev pub part_name : Part → Option (List ℕ)
part_name (Fields rows) = None
part_name (Between rows from to) = None
part_name (Group name rows) = Some name.now
part_name (Entries name count rows) = Some name.now
part_name (Numbers name w count) = Some name.now
part_name (Matrix name w rows columns) = Some name.now
part_name (Bytes name count) = Some name.now
part_name (Until name end) = Some name.now
part_name (Chosen by choices) = None
part_name (BySize from to choices) = None

abbrev pub line_of : List ℕ → List Mark → ℕ → Option (List ℕ) → Option (ℕ × ℕ)
line_of text marks total (Some name) = if is_nameless name then None else find_line text name marks total
line_of text marks total None = None

-- the first line of the first of these parts that has one
abbrev pub line_of_parts : List ℕ → List Mark → ℕ → List Part → Option (ℕ × ℕ)
line_of_parts text marks total [] = None
line_of_parts text marks total (part ∷ parts) =
    or_else (line_of text marks total (part_name part)) (line_of_parts text marks total parts)

-- the offset of what follows bytes without a name
abbrev pub gap_own : ℕ → ℕ → Place → Option (ℕ × ℕ) → List Own
gap_own start size place (Some found) = own_at start size place (found.0 - start)
gap_own start size place None = []

-- The number that a structure has of a part: of its entries, of its bytes, or of the bytes before its end. If these bytes have
-- no name, it is the offset of the next part that the text has.
abbrev pub part_own : List ℕ → List Mark → ℕ → ℕ → ℕ → Part → List Part → List Own
part_own text marks total start size (Fields rows) next = []
part_own text marks total start size (Between rows from to) next = []
part_own text marks total start size (Group name rows) next = []
part_own text marks total start size (Entries name count rows) next = count_own text marks start size name.now count
part_own text marks total start size (Numbers name w count) next = count_own text marks start size name.now count
part_own text marks total start size (Matrix name w rows columns) next = own_at start size rows (count_lines text name.now marks)
part_own text marks total start size (Bytes name count) next = length_own start size count (find_line text name.now marks total)
part_own text marks total start size (Until name end) next =
    if is_nameless name.now then gap_own start size end (line_of_parts text marks total next)
    else end_own start size end (find_line text name.now marks total)
part_own text marks total start size (Chosen by choices) next = []
part_own text marks total start size (BySize from to choices) next = []

abbrev pub parts_own : List ℕ → List Mark → ℕ → ℕ → ℕ → List Part → List Own
parts_own text marks total start size [] = []
parts_own text marks total start size (part ∷ parts) =
    part_own text marks total start size part parts ++ parts_own text marks total start size parts

-- the type of a structure, by its form
abbrev pub kind_own : Place → ℕ → ℕ → Option StructureForm → List Own
kind_own kind start size (Some form) = own_at start size kind form.number
kind_own kind start size None = []

-- the type of a structure, and the numbers of what it contains, with the marks after it
unfoldable pub structure_own : Source → List Cell → List Mark → ℕ → ℕ → ℕ → ℕ → List Own
structure_own s cells marks total at from to =
    let form = structure_form s.kind (all_forms s.form) (part_at from to s.text) (drop at cells) in
    let size = next_start marks total - at in
    kind_own s.kind at size form
    ++ (parts_own s.text marks total at size (form_parts form) ++ inner_own s.text marks total at size (form_inner form))

-- the types of structures, and the numbers of what they contain
abbrev pub contents_own : Source → List Cell → List Mark → ℕ → List Own
contents_own s cells [] total = []
contents_own s cells (Structure at from to ∷ marks) total =
    structure_own s cells marks total at from to ++ contents_own s cells marks total
contents_own s cells (Line at from to ∷ marks) total = contents_own s cells marks total
contents_own s cells (Reference at w from to ∷ marks) total = contents_own s cells marks total

-- the numbers of what a table contains
abbrev pub table_own : Source → List Cell → List Mark → List Own
table_own s cells marks =
    let total = length cells in
    let size = next_start marks total in
    parts_own s.text marks total 0 size s.form.parts.now
    ++ (inner_own s.text marks total 0 size s.form.inner.now ++ contents_own s cells marks total)

-- ---- references

abbrev pub is_same : Option (List ℕ) → Bool
is_same (Some []) = true
is_same (Some (c ∷ rest)) = false
is_same None = false

abbrev pub has_label : List ℕ → Option (List ℕ) → Bool
has_label wanted (Some label) = is_same (after wanted label)
has_label wanted None = false

-- the offset of the only structure with a label: another structure has it, or none
abbrev pub alone : ℕ → Option (Option ℕ) → Option ℕ
alone at None = Some at
alone at (Some other) = None

-- whether structures have a label, and the offset of the structure if one alone has it
abbrev pub find_label : List ℕ → List ℕ → List Mark → Option (Option ℕ)
find_label text wanted [] = None
find_label text wanted (Structure at from to ∷ marks) =
    if has_label wanted (label_of (part_at from to text)) then Some (alone at (find_label text wanted marks))
    else find_label text wanted marks
find_label text wanted (Line at from to ∷ marks) = find_label text wanted marks
find_label text wanted (Reference at w from to ∷ marks) = find_label text wanted marks

abbrev pub the_one : Option (Option ℕ) → Option ℕ
the_one (Some place) = place
the_one None = None

-- what a map has for a label
abbrev pub labelled : BTreeMap (Bor (List ℕ)) (Option ℕ) → List ℕ → Option (Option ℕ)
labelled labels wanted = get_by (λ label. slice_cmp nat_cmp wanted label.now) labels

-- a map has for each label whether structures have it, and the offset of the only one
abbrev pub AreLabels : BTreeMap (Bor (List ℕ)) (Option ℕ) → List ℕ → List Mark → Type 0
AreLabels labels text marks = (wanted : List ℕ) → labelled labels wanted ≡ find_label text wanted marks

-- a map with a further structure under a label, if there is one
abbrev pub PutsLabel : BTreeMap (Bor (List ℕ)) (Option ℕ) → BTreeMap (Bor (List ℕ)) (Option ℕ) → Option (List ℕ) → ℕ → Type 0
PutsLabel old new label at =
    (wanted : List ℕ) → labelled new wanted ≡
    (if has_label wanted label then Some (alone at (labelled old wanted)) else labelled old wanted)

abbrev pub reference_own : ℕ → ℕ → ℕ → ℕ → Option ℕ → Result (List Own) Fault
reference_own at w from to (Some offset) =
    if fits w offset then Ok (own at w offset ∷ []) else Err (fault from to Label)
reference_own at w from to None = Err (fault from to Label)

abbrev pub and_more : Result (List Own) Fault → Result (List Own) Fault → Result (List Own) Fault
and_more (Ok one) others = with_front one others
and_more (Err wrong) others = Err wrong

-- the offsets of the structures to which references refer
abbrev pub references_own : List ℕ → List Mark → List Mark → Result (List Own) Fault
references_own text all [] = Ok []
references_own text all (Structure at from to ∷ marks) = references_own text all marks
references_own text all (Line at from to ∷ marks) = references_own text all marks
references_own text all (Reference at w from to ∷ marks) =
    and_more (reference_own at w from to (the_one (find_label text (drop 1 (part_at from to text)) all)))
    (references_own text all marks)
