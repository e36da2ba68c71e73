-- Whether the lines of a text are those of the text that shows its table.
use Rattle.std.specs.Prelude.{ℕ, ◌-◌, ◌==◌, nat_le, nat_lt, not, ◌&&◌, ◌||◌, Bool, true, false, if◌then◌else◌}
use Rattle.std.specs.Prelude.{List, [], ◌∷◌, length, take, drop, codes, Option, Some, None, Result, Ok}
use Rattle.acpi_base.specs.declared.walk.Walk.{Walk}
use Rattle.acpi_text.specs.Structure.{all_forms, find_form}
use Rattle.acpi_text.specs.Table.{table_text}
use Rattle.acpi_text.specs.declared.form.StructureForm.{StructureForm}
use Rattle.acpi_make.specs.Draft.{Drafted, nothing_yet, is_nameless, name_of_form, first_of, all_taken}
use Rattle.acpi_make.specs.Entry.{find_anywhere, name_found, is_open}
use Rattle.acpi_make.specs.Fault.{Fault, fault, next, wide, grouped}
use Rattle.acpi_make.specs.Gives.{and_then}
use Rattle.acpi_make.specs.Groups.{groups_at, are_same_groups, largest_of}
use Rattle.acpi_make.specs.Heading.{described, find_named}
use Rattle.acpi_make.specs.Meaning.{parts_of}
use Rattle.acpi_make.specs.Own.{next_line}
use Rattle.acpi_make.specs.Source.{Source}
use Rattle.acpi_make.specs.Text.{part_at, after, after_offset, digits_front, decimal_of, are_white}
use Rattle.acpi_make.specs.declared.draft.Mark.{Mark}
use Rattle.acpi_make.specs.declared.draft.Mark.TheVariants.{Structure, Line, Reference}
use Rattle.acpi_make.specs.declared.fault.Wanted.TheVariants as wants

-- ---- headings

abbrev pub number_of : Option StructureForm → Option ℕ
number_of (Some form) = Some form.number
number_of None = None

-- by the number after the word `type`, 0 after the word `entry`, or by the structure's name
abbrev pub number_said : Option (List ℕ) → Option (List ℕ) → List ℕ → List StructureForm → Option ℕ
number_said (Some text) entry words forms = decimal_of (take (digits_front text) text)
number_said None (Some text) words forms = Some 0
number_said None None words forms = number_of (find_named words forms)

-- the type of which a heading says that its structure has it
abbrev pub heading_number : List StructureForm → List ℕ → Option ℕ
heading_number forms heading =
    let words = described heading in
    number_said (after (codes "type ") words) (after (codes "entry") words) words forms

abbrev pub is_same_number : Option ℕ → Option ℕ → Bool
is_same_number (Some n) (Some m) = n == m
is_same_number (Some n) None = false
is_same_number None (Some m) = false
is_same_number None None = true

-- ---- marks

abbrev pub mark_at : Mark → ℕ
mark_at (Structure at from to) = at
mark_at (Line at from to) = at
mark_at (Reference at w from to) = at

abbrev pub is_reference : Mark → Bool
is_reference (Structure at from to) = false
is_reference (Line at from to) = false
is_reference (Reference at w from to) = true

-- the name of a line
abbrev pub name_in : Source → ℕ → ℕ → List ℕ
name_in s from to = after_offset (part_at from to s.text)

-- whether two names are the same, but for white space at their ends
abbrev pub is_same_name : List ℕ → List ℕ → Bool
is_same_name [] other = are_white other
is_same_name (c ∷ name) [] = are_white (c ∷ name)
is_same_name (c ∷ name) (d ∷ other) =
    if c == d then is_same_name name other else are_white (c ∷ name) && are_white (d ∷ other)

-- whether marks of two texts say the same: structures of one type, or lines with one name, at one offset
abbrev pub is_same : Source → Source → Mark → Mark → Bool
is_same s t (Structure a from to) (Structure b since until) =
    a == b
    && is_same_number (heading_number (all_forms s.form) (part_at from to s.text))
    (heading_number (all_forms t.form) (part_at since until t.text))
is_same s t (Line a from to) (Line b since until) = a == b && is_same_name (name_in s from to) (name_in t since until)
is_same s t (Structure a from to) (Line b since until) = false
is_same s t (Structure a from to) (Reference b w since until) = false
is_same s t (Line a from to) (Structure b since until) = false
is_same s t (Line a from to) (Reference b w since until) = false
is_same s t (Reference a w from to) other = false

-- ---- the lines of two texts

-- The bytes for which a line without a name stands: from its offset to that of the next line.
pub record Range : Type 0 where
  pub start : ℕ
  pub end : ℕ

abbrev pub no_bytes : Range
no_bytes = record { start = 0; end = 0 }

abbrev pub is_within : ℕ → Range → Bool
is_within at covered = nat_le covered.start at && nat_lt at covered.end

-- whether a mark is one of the lines for which a line of bytes stands: it says something else, and stands within these bytes
abbrev pub is_passed : Source → Source → Mark → Range → Mark → Bool
is_passed s t one covered other = is_reference other || (not (is_same s t one other) && is_within (mark_at other) covered)

-- the marks without those at the front that are passed
abbrev pub past : Source → Source → Mark → Range → List Mark → List Mark
past s t one covered [] = []
past s t one covered (other ∷ others) =
    if is_passed s t one covered other then past s t one covered others else other ∷ others

-- the marks after those within bytes for which a line stands
abbrev pub rest_after : Range → List Mark → List Mark
rest_after covered [] = []
rest_after covered (other ∷ others) =
    if is_reference other || is_within (mark_at other) covered then rest_after covered others else other ∷ others

-- whether a mark says the same as the first of others, and what it marks ends at the same offset
abbrev pub begins_same : Source → Source → ℕ → ℕ → Mark → List Mark → Bool
begins_same s t size end one [] = false
begins_same s t size end one (other ∷ others) = is_same s t one other && end == next_line others size

-- whether a mark is a line of bytes without a name
abbrev pub has_no_name : Source → Mark → Bool
has_no_name s (Structure at from to) = false
has_no_name s (Line at from to) = is_nameless (name_in s from to)
has_no_name s (Reference at w from to) = false

-- whether it is a line of no bytes, whose field may have none
abbrev pub is_empty : Source → Mark → ℕ → Bool
is_empty s (Structure at from to) end = false
is_empty s (Line at from to) end = end == at && is_open (find_anywhere (name_in s from to) s.form)
is_empty s (Reference at w from to) end = false

-- the bytes for which the last line without a name stands
abbrev pub cover : Source → Mark → ℕ → Range → Range
cover s one end covered = if has_no_name s one then record { start = mark_at one; end = end } else covered

-- ---- what is wrong with a text whose lines are others

abbrev pub name_of_number : List StructureForm → Option ℕ → List ℕ
name_of_number forms (Some n) = name_of_form (find_form n forms)
name_of_number forms None = []

-- what has to stand in a range of the text, by the marks of the other text, which ends at an offset
abbrev pub wanted_at : Source → ℕ → ℕ → List Mark → ℕ → Fault
wanted_at t from to [] end = fault from to wants.End
wanted_at t from to (Structure at since until ∷ others) end =
    next from to (name_of_number (all_forms t.form) (heading_number (all_forms t.form) (part_at since until t.text))) 0
wanted_at t from to (Line at since until ∷ others) end =
    if is_nameless (name_in t since until) then fault from to wants.Nameless
    else next from to (name_found (find_anywhere (name_in t since until) t.form)) (next_line others end - at)
wanted_at t from to (Reference at w since until ∷ others) end = fault from to wants.End

-- What has to stand in place of a mark that ends at an offset. If a line of the same field has to stand there, it is the number
-- of its bytes.
abbrev pub wanted_for : Source → Source → Mark → ℕ → List Mark → ℕ → Fault
wanted_for s t (Line at from to) end (Line start since until ∷ others) size =
    if at == start && is_same_name (name_in s from to) (name_in t since until)
    then wide from to (name_found (find_anywhere (name_in t since until) t.form)) (next_line others size - at) (end - at)
    else wanted_at t from to (Line start since until ∷ others) size
wanted_for s t (Structure at from to) end others size = wanted_at t from to others size
wanted_for s t (Line at from to) end others size = wanted_at t from to others size
wanted_for s t (Reference at w from to) end others size = wanted_at t from to others size

-- A line with a name, whose digits stand in other groups than those of the first of others, which says the same. So a number
-- isn't in several groups, whose bytes would be in the other order, and bytes aren't in one.
abbrev pub misgrouped : Source → Source → Mark → List Mark → Option Fault
misgrouped s t (Line at from to) (Line start since until ∷ others) =
    if is_nameless (name_in s from to) || are_same_groups (groups_at to s.text) (groups_at until t.text) then None
    else Some (grouped from to (name_found (find_anywhere (name_in t since until) t.form)) (largest_of (groups_at until t.text)))
misgrouped s t one others = None

-- the end of a text, after which the other text has these marks
abbrev pub wanted_after : Source → List Mark → ℕ → Option Fault
wanted_after t [] end = None
wanted_after t (other ∷ others) end = Some (wanted_at t 0 0 (other ∷ others) end)

-- ---- all lines

-- The first mark of a text that the other text doesn't have in its place. Both have tables of this size.
abbrev pub differ : Source → Source → ℕ → Range → List Mark → List Mark → Option Fault
differ s t size covered [] others = wanted_after t (rest_after covered others) size
differ s t size covered (one ∷ marks) others =
    let rest = past s t one covered others in
    let end = next_line marks size in
    if is_reference one then differ s t size covered marks others
    else (if begins_same s t size end one rest
    then first_of (misgrouped s t one rest) (differ s t size (cover s one end covered) marks (drop 1 rest))
    else (if has_no_name s one || is_empty s one end then differ s t size (cover s one end covered) marks rest
    else Some (wanted_for s t one end rest size)))

-- what is wrong with the lines of a text, if the text that shows its table has these parts
abbrev pub difference : Option Walk → Source → Drafted → List ℕ → Result (Option Fault) Fault
difference walk s d bytes =
    let shown = record s { text = table_text s.form walk bytes } in
    and_then (parts_of shown.text) (λ parts.
    and_then (all_taken shown parts nothing_yet) (λ other.
    Ok (differ s shown (length bytes) no_bytes d.marks other.marks)))
