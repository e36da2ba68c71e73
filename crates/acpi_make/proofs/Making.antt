-- What texts of known bytes are made into.
use Rattle.std.proofs.Common.{◌≡◌, ℕ, zero, suc, ◌+◌, ◌==◌, nat_lt, not, ◌&&◌, ◌||◌, Bool, true, false, cond, eq-eqb}
use Rattle.std.proofs.Common.{List, [], ◌∷◌, ◌++◌, length, take, drop, Option, Some, None, Result, Ok, refl, sym, ap, ◌∙◌, append_assoc, arith}
use Rattle.std.proofs.lemmas.List.{append-nil, take-append-drop}
use Rattle.acpi_base.specs.Walk.{place_offset, place_width}
use Rattle.acpi_base.specs.declared.walk.Place.{Place}
use Rattle.acpi_base.specs.declared.walk.Walk.{Walk}
use Rattle.acpi_make.specs.Blamed.{blamed}
use Rattle.acpi_make.specs.Compare.{heading_number, is_same_number, mark_at, is_reference, name_in, is_same_name, is_same, Range, no_bytes, is_within, past}
use Rattle.acpi_make.specs.Compare.{begins_same, has_no_name, is_empty, cover, wanted_for, misgrouped, differ, difference}
use Rattle.acpi_make.specs.Complete.{are_left, written, filled, all_filled, summed_at, summed, length_own, known, completed}
use Rattle.acpi_make.specs.Draft.{Drafted, nothing_yet, is_nameless, first_of, closed, doubt_of, opened, line_found, with_line, with_heading, with_cells, all_taken}
use Rattle.acpi_make.specs.Entry.{Entry}
use Rattle.acpi_make.specs.Fault.{Fault}
use Rattle.acpi_make.specs.Fits.{fits}
use Rattle.acpi_make.specs.Gives.{with_front, and_then}
use Rattle.acpi_make.specs.Groups.{Groups, groups_at, are_same_groups}
use Rattle.acpi_make.specs.Item.{known_cells, cells_of}
use Rattle.acpi_make.specs.Laws.{made_text, HasBytes, TablesAreRead, TablesAreMade}
use Rattle.acpi_make.specs.Made.{Table, sizes_own, made_of, unless, finished, or_doubt, made}
use Rattle.acpi_make.specs.Meaning.{read}
use Rattle.acpi_make.specs.Own.{next_line, none_own, table_own, references_own}
use Rattle.acpi_make.specs.Heading.{structure_form}
use Rattle.acpi_make.specs.Lack.{lists_of}
use Rattle.acpi_make.specs.Short.{any_left, size_place, inner_place, leaves_out}
use Rattle.acpi_make.specs.Short.{leaves_out_length, leaves_out_table_length}
use Rattle.acpi_make.specs.Short.{short_structure, short_titled, short_inners, short_within}
use Rattle.acpi_make.specs.Short.{short_of_form, short_in, short_table, short}
use Rattle.acpi_make.specs.Source.{Source}
use Rattle.acpi_make.specs.Text.{part_at}
use Rattle.acpi_make.specs.declared.file_kind.FileKind.{FileKind}
use Rattle.acpi_make.specs.declared.file_kind.FileKind.TheVariants as kinds
use Rattle.acpi_make.specs.declared.draft.Mark.{Mark}
use Rattle.acpi_make.specs.declared.draft.Mark.TheVariants.{Structure, Line, Reference}
use Rattle.acpi_make.specs.declared.item.Cell.{Cell}
use Rattle.acpi_make.specs.declared.item.Cell.TheVariants.{Byte}
use Rattle.acpi_make.specs.declared.item.Item.{Item}
use Rattle.acpi_make.specs.declared.item.Item.TheVariants as items
use Rattle.acpi_make.specs.declared.extent.Own.{Own}
use Rattle.acpi_make.specs.declared.state.State.TheVariants.{Start}
use Rattle.acpi_text.specs.Table.{table_text}
use Rattle.acpi_text.specs.declared.form.InnerForm.{InnerForm}
use Rattle.acpi_text.specs.declared.form.InnerList.{InnerList}
use Rattle.acpi_text.specs.declared.form.StructureForm.{StructureForm}
use Rattle.acpi_make.proofs.Tables.{tables_mean}
use Rattle.acpi_text.specs.Structure.{all_forms}

-- ---- known bytes are kept

pub drop_known : (n : ℕ) (bytes : List ℕ) → drop n (known_cells bytes) ≡ known_cells (drop n bytes)
drop_known zero bytes = refl
drop_known (suc n) [] = refl
drop_known (suc n) (b ∷ bytes) = drop_known n bytes

none_left : (w : ℕ) (bytes : List ℕ) → are_left (suc w) (known_cells bytes) ≡ false
none_left w [] = refl
none_left w (b ∷ bytes) = refl

either_same : (b : Bool) (x y : List Cell) → x ≡ y → cond b x y ≡ y
either_same true x y same = same
either_same false x y same = refl

not_chosen : (a b c : Bool) (x y : List Cell) → b ≡ false → cond (a && b && c) x y ≡ y
not_chosen true true c x y is = absurd cc
not_chosen true false c x y is = refl
not_chosen false b c x y is = refl

filled_known : (offset w n : ℕ) (bytes : List ℕ) → filled offset w n (known_cells bytes) ≡ known_cells bytes
filled_known offset zero n bytes =
    let cells = known_cells bytes in
    either_same (nat_lt offset (length cells) && are_left 0 (drop offset cells) && fits 0 n) (written offset 0 n cells) cells
    (ap (λ k. take offset cells ++ drop k cells) (let e : offset + 0 ≡ offset = omega arith in e) ∙ take-append-drop offset cells)
filled_known offset (suc w) n bytes =
    let cells = known_cells bytes in
    not_chosen (nat_lt offset (length cells)) (are_left (suc w) (drop offset cells)) (fits (suc w) n) _ _
    (ap (are_left (suc w)) (drop_known offset bytes) ∙ none_left w (drop offset bytes))

all_known : (owns : List Own) (bytes : List ℕ) → all_filled owns (known_cells bytes) ≡ known_cells bytes
all_known [] bytes = refl
all_known (one ∷ owns) bytes = ap (all_filled owns) (filled_known one.offset one.width one.number bytes) ∙ all_known owns bytes

summed_known : (file_kind : FileKind) (bytes : List ℕ) → summed file_kind (known_cells bytes) ≡ known_cells bytes
summed_known kinds.Table bytes = filled_known 9 1 _ bytes
summed_known kinds.Rsdp bytes =
    ap (summed_at 32 (length (known_cells bytes))) (filled_known 8 1 _ bytes) ∙ filled_known 32 1 _ bytes
summed_known kinds.Facs bytes = refl
summed_known kinds.Cdat bytes = filled_known 5 1 _ bytes
summed_known kinds.S3pt bytes = refl

known_all : (bytes : List ℕ) → known (known_cells bytes) ≡ Ok bytes
known_all [] = refl
known_all (b ∷ bytes) = ap (with_front (b ∷ [])) (known_all bytes)

completed_known : (file_kind : FileKind) (owns : List Own) (bytes : List ℕ) → completed file_kind owns (known_cells bytes) ≡ Ok bytes
completed_known file_kind owns bytes =
    ap (λ cells. known (summed file_kind cells)) (all_known owns bytes) ∙ ap known (summed_known file_kind bytes) ∙ known_all bytes

-- ---- parts without values by name

-- no mark is a reference
abbrev NoReference : List Mark → Type 0
NoReference [] = Unit {0}
NoReference (Structure at from to ∷ marks) = NoReference marks
NoReference (Line at from to ∷ marks) = NoReference marks
NoReference (Reference at w from to ∷ marks) = ⊥

nothing_referred : (text : List ℕ) (all marks : List Mark) → NoReference marks → references_own text all marks ≡ Ok []
nothing_referred text all [] none = refl
nothing_referred text all (Structure at from to ∷ marks) none = nothing_referred text all marks none
nothing_referred text all (Line at from to ∷ marks) none = nothing_referred text all marks none
nothing_referred text all (Reference at w from to ∷ marks) none = absurd none

no_reference_more : (marks others : List Mark) → NoReference marks → NoReference others → NoReference (marks ++ others)
no_reference_more [] others none more = more
no_reference_more (Structure at from to ∷ marks) others none more = no_reference_more marks others none more
no_reference_more (Line at from to ∷ marks) others none more = no_reference_more marks others none more
no_reference_more (Reference at w from to ∷ marks) others none more = absurd none

-- what parts with these bytes give after a table in the making
record Given (outcome : Result Drafted Fault) (cells : List Cell) (bytes : List ℕ) : Type 0 where
  next : Drafted
  is : outcome ≡ Ok next
  same : next.cells ≡ cells ++ known_cells bytes
  none : NoReference next.marks

-- a step that changes no bytes
record Kept (next d : Drafted) : Type 0 where
  same : next.cells ≡ d.cells
  none : NoReference d.marks → NoReference next.marks

found_kept : (found : Option (ℕ × Entry)) (doubt : Option Fault) (d : Drafted) → Kept (line_found found doubt d) d
found_kept (Some found) doubt d = record { same = refl; none = λ none. none }
found_kept None doubt d = record { same = refl; none = λ none. none }

then_kept : (a b c : Drafted) → Kept a b → Kept b c → Kept a c
then_kept a b c one two = record { same = one.same ∙ two.same; none = λ none. one.none (two.none none) }

line_kept : (s : Source) (from to : ℕ) (d : Drafted) → Kept (with_line s from to d) d
line_kept s from to d =
    then_kept _ (opened from to (closed d)) d (found_kept _ _ _)
    (record { same = refl; none = λ none. no_reference_more d.marks (Line (length d.cells) from to ∷ []) none tt })

heading_chosen : (b : Bool) (one two d : Drafted) → Kept one d → Kept two d → Kept (cond b one two) d
heading_chosen true one two d first second = first
heading_chosen false one two d first second = second

heading_kept : (from to : ℕ) (d : Drafted) → Kept (with_heading from to d) d
heading_kept from to d =
    heading_chosen (length d.cells == 0) d _ d (record { same = refl; none = λ none. none })
    (record { same = refl; none = λ none. no_reference_more d.marks (Structure (length d.cells) from to ∷ []) none tt })

none_more : (cells : List Cell) (bytes : List ℕ) → [] ≡ known_cells bytes → cells ≡ cells ++ known_cells bytes
none_more cells [] is = sym (append-nil cells)
none_more cells (b ∷ bytes) is = absurd cc

given : (s : Source) (parts : List Item) (d : Drafted) (bytes : List ℕ) → cells_of parts ≡ known_cells bytes → NoReference d.marks
    → Given (all_taken s parts d) d.cells bytes
given s [] d bytes is none = record { next = d; is = refl; same = none_more d.cells bytes is; none = none }
given s (items.Cell cell ∷ parts) d [] is none = absurd cc
given s (items.Cell cell ∷ parts) d (b ∷ bytes) is none =
    let one : cell ≡ Byte b = cc in
    let others : cells_of parts ≡ known_cells bytes = cc in
    let rest = given s parts (with_cells (cell ∷ []) d) bytes others none in
    record {
      next = rest.next;
      is = rest.is;
      same = rest.same ∙ append_assoc d.cells (cell ∷ []) (known_cells bytes) ∙ ap (λ c. d.cells ++ (c ∷ known_cells bytes)) one;
      none = rest.none;
    }
given s (items.Heading from to ∷ parts) d bytes is none =
    let kept = heading_kept from to d in
    let rest = given s parts (with_heading from to d) bytes is (kept.none none) in
    record { next = rest.next; is = rest.is; same = rest.same ∙ ap (λ c. c ++ known_cells bytes) kept.same; none = rest.none }
given s (items.Name from to ∷ parts) d bytes is none =
    let kept = line_kept s from to d in
    let rest = given s parts (with_line s from to d) bytes is (kept.none none) in
    record { next = rest.next; is = rest.is; same = rest.same ∙ ap (λ c. c ++ known_cells bytes) kept.same; none = rest.none }
given s (items.Value from to ∷ parts) d [] is none = absurd cc
given s (items.Value from to ∷ parts) d (b ∷ bytes) is none = absurd cc

-- ---- texts whose bytes are all known

any_known : (w : ℕ) (bytes : List ℕ) → any_left w (known_cells bytes) ≡ false
any_known zero bytes = refl
any_known (suc w) [] = refl
any_known (suc w) (b ∷ bytes) = any_known w bytes

-- no field leaves out a byte
none_out : (w k : ℕ) (bytes : List ℕ) → any_left w (drop k (known_cells bytes)) ≡ false
none_out w k bytes = ap (any_left w) (drop_known k bytes) ∙ any_known w (drop k bytes)

unless_left : (a : Bool) (wrong : Option Fault) → a ≡ false → cond a wrong None ≡ None
unless_left true wrong is = absurd cc
unless_left false wrong is = refl

place_whole : (place : Place) (at : ℕ) (bytes : List ℕ) → leaves_out place at (known_cells bytes) ≡ false
place_whole place at bytes =
    ap (λ cells. any_left (place_width place) (drop (place_offset place) cells)) (drop_known at bytes)
    ∙ none_out (place_width place) (place_offset place) (drop at bytes)

closed_unless : (a b : Bool) → b ≡ false → cond a false b ≡ false
closed_unless true b is = refl
closed_unless false b is = is

-- Neither a structure nor the table leaves out its length.
structure_closed : (place : Place) (at : ℕ) (bytes : List ℕ) → leaves_out_length place false at (known_cells bytes) ≡ false
structure_closed place at bytes =
    closed_unless (place_width place == 0) (leaves_out place at (known_cells bytes)) (place_whole place at bytes)

table_closed : (file_kind : FileKind) (bytes : List ℕ) → leaves_out_table_length file_kind (known_cells bytes) ≡ false
table_closed file_kind bytes = none_out 4 (length_own file_kind (length (known_cells bytes))).offset bytes

structure_whole : (text : List ℕ) (place : Place) (bytes : List ℕ) (marks : List Mark) (at : ℕ) (form : Option StructureForm)
    → short_structure text place false (known_cells bytes) marks at form ≡ None
structure_whole text place bytes marks at None = refl
structure_whole text place bytes marks at (Some form) =
    unless_left (leaves_out_length place false at (known_cells bytes)) _ (structure_closed place at bytes)

titled_whole : (text : List ℕ) (lists : List InnerList) (bytes : List ℕ) (marks : List Mark) (at : ℕ) (form : Option InnerForm)
    → short_titled text lists (known_cells bytes) marks at form ≡ None
titled_whole text lists bytes marks at None = refl
titled_whole text lists bytes marks at (Some form) =
    unless_left (leaves_out (inner_place form.size) at (known_cells bytes)) _ (place_whole (inner_place form.size) at bytes)

inners_whole : (text : List ℕ) (lists : List InnerList) (bytes : List ℕ) (marks : List Mark)
    → short_inners text lists (known_cells bytes) marks ≡ None
inners_whole text lists bytes [] = refl
inners_whole text lists bytes (Structure at from to ∷ marks) = refl
inners_whole text lists bytes (Line at from to ∷ marks) =
    ap (λ first. first_of first (short_inners text lists (known_cells bytes) marks))
    (titled_whole text lists bytes marks at _)
    ∙ inners_whole text lists bytes marks
inners_whole text lists bytes (Reference at w from to ∷ marks) = inners_whole text lists bytes marks

form_whole : (text : List ℕ) (form : Option StructureForm) (bytes : List ℕ) (marks : List Mark)
    → short_of_form text form (known_cells bytes) marks ≡ None
form_whole text (Some form) bytes marks = inners_whole text (lists_of form.inner.now) bytes marks
form_whole text None bytes marks = refl

structures_whole : (s : Source) (place : Place) (bytes : List ℕ) (marks : List Mark)
    → short_in s place false (known_cells bytes) marks ≡ None
structures_whole s place bytes [] = refl
structures_whole s place bytes (Structure at from to ∷ marks) =
    let form = structure_form s.kind (all_forms s.form) (part_at from to s.text) (drop at (known_cells bytes)) in
    let within = short_of_form s.text form (known_cells bytes) marks in
    ap (λ first. first_of first (first_of within (short_in s place false (known_cells bytes) marks)))
    (structure_whole s.text place bytes marks at form)
    ∙ ap (λ first. first_of first (short_in s place false (known_cells bytes) marks)) (form_whole s.text form bytes marks)
    ∙ structures_whole s place bytes marks
structures_whole s place bytes (Line at from to ∷ marks) = structures_whole s place bytes marks
structures_whole s place bytes (Reference at w from to ∷ marks) = structures_whole s place bytes marks

all_whole : (file_kind : FileKind) (walk : Option Walk) (s : Source) (d : Drafted) (bytes : List ℕ) → d.cells ≡ known_cells bytes
    → short file_kind walk s d ≡ None
all_whole file_kind walk s d bytes is =
    let all : Bool → List Cell → Option Fault = λ no_length cells.
    first_of (short_table no_length s cells d.marks)
    (first_of (short_within s.text s.form.inner.now cells d.marks) (short_in s (size_place walk) no_length cells d.marks)) in
    ap (λ cells. all (leaves_out_table_length file_kind cells) cells) is
    ∙ ap (λ no_length. all no_length (known_cells bytes)) (table_closed file_kind bytes)
    ∙ ap (λ first. first_of first (short_in s (size_place walk) false (known_cells bytes) d.marks))
    (inners_whole s.text (lists_of s.form.inner.now) bytes d.marks)
    ∙ structures_whole s (size_place walk) bytes d.marks

-- ---- a text and itself

name_same : (name : List ℕ) → is_same_name name name ≡ true
name_same [] = refl
name_same (c ∷ name) = rw (eq-eqb c c refl) (name_same name)

number_same : (number : Option ℕ) → is_same_number number number ≡ true
number_same (Some n) = eq-eqb n n refl
number_same None = refl

-- no mark is a reference, and each says the same as itself
mark_same : (s : Source) (one : Mark) → is_reference one ≡ false → is_same s s one one ≡ true
mark_same s (Structure at from to) plain =
    rw (eq-eqb at at refl, number_same (heading_number (all_forms s.form) (part_at from to s.text))) refl
mark_same s (Line at from to) plain = rw (eq-eqb at at refl, name_same (name_in s from to)) refl
mark_same s (Reference at w from to) plain = absurd cc

not_passed : (a b c : Bool) (x y : List Mark) → a ≡ false → b ≡ true → cond (a || (not b && c)) x y ≡ y
not_passed true b c x y plain same = absurd cc
not_passed false true c x y plain same = refl
not_passed false false c x y plain same = absurd cc

second_chosen : (a b : Bool) (x y z : Option Fault) → a ≡ false → b ≡ true → cond a x (cond b y z) ≡ y
second_chosen true b x y z plain same = absurd cc
second_chosen false true x y z plain same = refl
second_chosen false false x y z plain same = absurd cc

both : (a b : Bool) → a ≡ true → b ≡ true → (a && b) ≡ true
both true b one two = two
both false b one two = absurd cc

same_groups : (groups : Option Groups) → are_same_groups groups groups ≡ true
same_groups (Some groups) = rw (eq-eqb groups.0 groups.0 refl, eq-eqb groups.1 groups.1 refl) refl
same_groups None = refl

none_if : (a b : Bool) (wrong : Option Fault) → b ≡ true → cond (a || b) None wrong ≡ None
none_if true b wrong is = refl
none_if false true wrong is = refl
none_if false false wrong is = absurd cc

-- The digits of a line stand in the groups of the same line.
groups_same : (s : Source) (one : Mark) (marks : List Mark) → misgrouped s s one (one ∷ marks) ≡ None
groups_same s (Structure at from to) marks = refl
groups_same s (Line at from to) marks = none_if (is_nameless (name_in s from to)) (are_same_groups (groups_at to s.text) (groups_at to s.text)) _ (same_groups (groups_at to s.text))
groups_same s (Reference at w from to) marks = refl

-- a line that stands in both
one_passed : (s : Source) (size : ℕ) (covered : Range) (one : Mark) (marks : List Mark) → is_reference one ≡ false
    → differ s s size covered (one ∷ marks) (one ∷ marks) ≡ differ s s size (cover s one (next_line marks size) covered) marks marks
one_passed s size covered one marks plain =
    let end = next_line marks size in
    let next = cover s one end covered in
    let same = mark_same s one plain in
    ap (λ rest. cond (is_reference one) (differ s s size covered marks (one ∷ marks))
    (cond (begins_same s s size end one rest) (first_of (misgrouped s s one rest) (differ s s size next marks (drop 1 rest)))
    (cond (has_no_name s one || is_empty s one end) (differ s s size next marks rest)
    (Some (wanted_for s s one end rest size)))))
    (not_passed (is_reference one) (is_same s s one one) (is_within (mark_at one) covered) (past s s one covered marks) (one ∷ marks) plain same)
    ∙ second_chosen (is_reference one) (is_same s s one one && end == end) _ _ _ plain (both (is_same s s one one) (end == end) same (eq-eqb end end refl))
    ∙ ap (λ wrong. first_of wrong (differ s s size next marks marks)) (groups_same s one marks)

no_difference : (s : Source) (size : ℕ) (covered : Range) (marks : List Mark) → NoReference marks → differ s s size covered marks marks ≡ None
no_difference s size covered [] none = refl
no_difference s size covered (Structure at from to ∷ marks) none =
    one_passed s size covered (Structure at from to) marks refl
    ∙ no_difference s size (cover s (Structure at from to) (next_line marks size) covered) marks none
no_difference s size covered (Line at from to ∷ marks) none =
    one_passed s size covered (Line at from to) marks refl
    ∙ no_difference s size (cover s (Line at from to) (next_line marks size) covered) marks none
no_difference s size covered (Reference at w from to ∷ marks) none = absurd none

-- ---- whole texts

pub tables_read : TablesAreRead
tables_read form walk bytes are small =
    let means = tables_mean form walk bytes are small in
    record {
      parts = means.parts [];
      read = ap (read Start []) (sym (append-nil (table_text form walk bytes))) ∙ means.reads [] ∙ ap Ok (append-nil (means.parts []));
      cells = means.cells [];
    }

pub tables_made : TablesAreMade
tables_made form walk kind file_kind bytes are small = record { table = made_of file_kind owns bytes; is = is; same = refl }
  where
    s : Source
    s = record { form = form; kind = kind; text = table_text form walk bytes }

    has : HasBytes s.text bytes
    has = tables_read form walk bytes are small

    all : Given (all_taken s has.parts nothing_yet) [] bytes
    all = given s has.parts nothing_yet bytes has.cells tt

    d : Drafted
    d = all.next

    owns : List Own
    owns = sizes_own file_kind walk d ++ table_own s d.cells d.marks

    outcome : Option Fault → Result Table Fault
    outcome wrong = unless (blamed file_kind walk s d owns bytes wrong) (Ok (made_of file_kind owns bytes))

    same_lines : difference walk s d bytes ≡ Ok None
    same_lines =
        ap (λ read. and_then read (λ parts. and_then (all_taken s parts nothing_yet) (λ other. Ok (differ s s (length bytes) no_bytes d.marks other.marks))))
        has.read
        ∙ ap (λ taken. and_then taken (λ other. Ok (differ s s (length bytes) no_bytes d.marks other.marks))) all.is
        ∙ ap Ok (no_difference s (length bytes) no_bytes d.marks all.none)

    rest : List Own → Result Table Fault
    rest found =
        and_then (completed file_kind (found ++ none_own walk d.marks (length d.cells)) d.cells) (λ bytes.
        and_then (difference walk s d bytes) (λ wrong. unless (blamed file_kind walk s d found bytes wrong) (Ok (made_of file_kind found bytes))))

    completes : completed file_kind (owns ++ none_own walk d.marks (length d.cells)) d.cells ≡ Ok bytes
    completes = ap (completed file_kind (owns ++ none_own walk d.marks (length d.cells))) all.same
        ∙ completed_known file_kind (owns ++ none_own walk d.marks (length d.cells)) bytes

    finishes : finished file_kind walk s d ≡ Ok (made_of file_kind owns bytes)
    finishes =
        ap (λ found. and_then (and_then found (λ references. Ok (references ++ owns))) (λ found. unless (short file_kind walk s d) (rest found)))
        (nothing_referred s.text d.marks d.marks all.none)
        ∙ ap (λ wrong. unless wrong (rest owns)) (all_whole file_kind walk s d bytes all.same)
        ∙ ap (λ done. and_then done (λ bytes.
        and_then (difference walk s d bytes) (λ wrong. unless (blamed file_kind walk s d owns bytes wrong) (Ok (made_of file_kind owns bytes))))) completes
        ∙ ap (λ found. and_then found outcome) same_lines

    is : made_text file_kind walk s ≡ Ok (made_of file_kind owns bytes)
    is =
        ap (λ read. and_then read (λ parts. made file_kind walk s parts)) has.read
        ∙ ap (λ taken. and_then taken (λ d. or_doubt (doubt_of d) (finished file_kind walk s d))) all.is
        ∙ ap (or_doubt (doubt_of d)) finishes
