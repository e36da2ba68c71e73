-- The marks of a text stand in the order of its bytes.
use Rattle.std.proofs.Common.{◌≡◌, ℕ, ◌≤◌, ◌==◌, Bool, true, false, cond}
use Rattle.std.proofs.Common.{List, [], ◌∷◌, ◌++◌, length, Option, Some, None, Result, Ok, refl, subst, arith, length-append}
use Rattle.acpi_make.specs.Draft.{Drafted, all_taken, taken, closed, opened, line_found, with_line, with_heading, with_cells, with_number}
use Rattle.acpi_make.specs.Draft.{with_reference, with_value_of, is_reference, wanted_for, wants_in}
use Rattle.acpi_make.specs.Entry.{Entry}
use Rattle.acpi_base.specs.Bytes.{le}
use Rattle.acpi_make.specs.Fits.{fits}
use Rattle.acpi_make.specs.Item.{known_cells}
use Rattle.acpi_make.specs.Own.{next_start}
use Rattle.acpi_make.specs.Text.{part_at}
use Rattle.acpi_make.specs.Value.{value_of}
use Rattle.acpi_make.specs.declared.draft.Mark.{Mark}
use Rattle.acpi_make.specs.declared.draft.Mark.TheVariants.{Structure, Line, Reference}
use Rattle.acpi_make.specs.Source.{Source}
use Rattle.acpi_make.specs.Fault.{Fault}
use Rattle.acpi_make.specs.declared.fault.Wanted.{Wanted}
use Rattle.acpi_make.specs.declared.fault.Wanted.TheVariants as wants
use Rattle.acpi_make.specs.declared.item.Cell.{Cell}
use Rattle.acpi_make.specs.declared.item.Item.{Item}
use Rattle.acpi_make.specs.declared.item.Item.TheVariants as items
use Rattle.acpi_make.proofs.Truth.{then_is}

-- each structure begins before the next, and before the table's end
abbrev pub Ascending : List Mark → ℕ → Type 0
Ascending [] total = Unit {0}
Ascending (Structure at from to ∷ marks) total = (at ≤ next_start marks total) × Ascending marks total
Ascending (Line at from to ∷ marks) total = Ascending marks total
Ascending (Reference at w from to ∷ marks) total = Ascending marks total

pub start_within : (marks : List Mark) (total : ℕ) → Ascending marks total → next_start marks total ≤ total
start_within [] total up = omega arith
start_within (Structure at from to ∷ marks) total up = omega (arith, up.0, start_within marks total up.1)
start_within (Line at from to ∷ marks) total up = start_within marks total up
start_within (Reference at w from to ∷ marks) total up = start_within marks total up

later_start : (marks : List Mark) (m n : ℕ) → m ≤ n → next_start marks m ≤ next_start marks n
later_start [] m n less = less
later_start (Structure at from to ∷ marks) m n less = omega arith
later_start (Line at from to ∷ marks) m n less = later_start marks m n less
later_start (Reference at w from to ∷ marks) m n less = later_start marks m n less

later_end : (marks : List Mark) (m n : ℕ) → m ≤ n → Ascending marks m → Ascending marks n
later_end [] m n less up = tt
later_end (Structure at from to ∷ marks) m n less up = (omega (arith, up.0, later_start marks m n less), later_end marks m n less up.1)
later_end (Line at from to ∷ marks) m n less up = later_end marks m n less up
later_end (Reference at w from to ∷ marks) m n less up = later_end marks m n less up

-- where structures begin, and where all end, with one mark more
start_more : (marks : List Mark) (mark : Mark) (total : ℕ) → next_start (marks ++ mark ∷ []) total ≡ next_start marks (next_start (mark ∷ []) total)
start_more [] mark total = refl
start_more (Structure at from to ∷ marks) mark total = refl
start_more (Line at from to ∷ marks) mark total = start_more marks mark total
start_more (Reference at w from to ∷ marks) mark total = start_more marks mark total

ascending_more : (marks : List Mark) (mark : Mark) (total : ℕ) → Ascending marks (next_start (mark ∷ []) total) → Ascending (mark ∷ []) total
    → Ascending (marks ++ mark ∷ []) total
ascending_more [] mark total up one = one
ascending_more (Structure at from to ∷ marks) mark total up one =
    (omega (arith, up.0, start_more marks mark total), ascending_more marks mark total up.1 one)
ascending_more (Line at from to ∷ marks) mark total up one = ascending_more marks mark total up one
ascending_more (Reference at w from to ∷ marks) mark total up one = ascending_more marks mark total up one

-- ---- a table in the making

abbrev pub Ordered : Drafted → Type 0
Ordered d = Ascending d.marks (length d.cells)

cells_ordered : (cells : List Cell) (d : Drafted) → Ordered d → Ordered (with_cells cells d)
cells_ordered cells d up =
    later_end d.marks (length d.cells) (length (d.cells ++ cells)) (omega (arith, length-append d.cells cells)) up

found_ordered : (found : Option (ℕ × Entry)) (doubt : Option Fault) (d : Drafted) → Ordered d → Ordered (line_found found doubt d)
found_ordered (Some found) doubt d up = up
found_ordered None doubt d up = up

line_ordered : (s : Source) (from to : ℕ) (d : Drafted) → Ordered d → Ordered (with_line s from to d)
line_ordered s from to d up =
    let mark = Line (length d.cells) from to in
    found_ordered _ _ (opened from to (closed d)) (ascending_more d.marks mark (length d.cells) up tt)

either_ordered : (b : Bool) (one two : Drafted) → Ordered one → Ordered two → Ordered (cond b one two)
either_ordered true one two first second = first
either_ordered false one two first second = second

heading_ordered : (from to : ℕ) (d : Drafted) → Ordered d → Ordered (with_heading from to d)
heading_ordered from to d up =
    let size = length d.cells in
    either_ordered (size == 0) d _ up (ascending_more d.marks (Structure size from to) size up (omega arith, tt))

reference_ordered : (w from to : ℕ) (d : Drafted) → Ordered d → Ordered (with_reference w from to d)
reference_ordered w from to d up =
    let mark = Reference (length d.cells) w from to in
    let cells = with_cells _ d in
    ascending_more d.marks mark (length cells.cells) (cells_ordered _ d up) tt

number_ordered : (from to w : ℕ) (wanted : Wanted) (found : Option ℕ) (d next : Drafted) → Ordered d
    → with_number from to w wanted found d ≡ Ok next → Ordered next
number_ordered from to w wanted None d next up is = absurd cc
number_ordered from to w wanted (Some n) d next up is = chosen (fits w n) is
  where
    chosen : (b : Bool) → cond b (Ok (with_cells (known_cells (le w n)) d)) (wants_in from to wanted d) ≡ Ok next → Ordered next
    chosen true is = subst Ordered (let e : with_cells (known_cells (le w n)) d ≡ next = cc in e) (cells_ordered _ d up)
    chosen false is = absurd cc

value_ordered : (s : Source) (from to : ℕ) (field : Option Entry) (d next : Drafted) → Ordered d
    → with_value_of s from to field d ≡ Ok next → Ordered next
value_ordered s from to None d next up is = absurd cc
value_ordered s from to (Some one) d next up is = chosen (one.width == 0) (is_reference value) is
  where
    value : List ℕ
    value = part_at from to s.text

    numbered : Result Drafted Fault
    numbered = with_number from to one.width (wanted_for value) (value_of one.look value) d

    chosen : (a b : Bool) → cond a (wants_in from to wants.Field d) (cond b (Ok (with_reference one.width from to d)) numbered) ≡ Ok next
        → Ordered next
    chosen true b is = absurd cc
    chosen false true is =
        subst Ordered (let e : with_reference one.width from to d ≡ next = cc in e) (reference_ordered one.width from to d up)
    chosen false false is = number_ordered from to one.width (wanted_for value) (value_of one.look value) d next up is

taken_ordered : (s : Source) (item : Item) (d next : Drafted) → Ordered d → taken s item d ≡ Ok next → Ordered next
taken_ordered s (items.Cell cell) d next up is = subst Ordered (let e : with_cells (cell ∷ []) d ≡ next = cc in e) (cells_ordered _ d up)
taken_ordered s (items.Heading from to) d next up is = subst Ordered (let e : with_heading from to d ≡ next = cc in e) (heading_ordered from to d up)
taken_ordered s (items.Name from to) d next up is = subst Ordered (let e : with_line s from to d ≡ next = cc in e) (line_ordered s from to d up)
taken_ordered s (items.Value from to) d next up is = value_ordered s from to d.field d next up is

pub all_ordered : (s : Source) (parts : List Item) (d end : Drafted) → Ordered d → all_taken s parts d ≡ Ok end → Ordered end
all_ordered s [] d end up is = subst Ordered (let e : d ≡ end = cc in e) up
all_ordered s (item ∷ parts) d end up is =
    let one = then_is (taken s item d) _ end is in
    all_ordered s parts one.middle end (taken_ordered s item d one.middle up one.is) one.follows
