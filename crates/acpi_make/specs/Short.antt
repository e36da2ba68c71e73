-- Structures that lack fields, and whose length the text leaves out.
use Rattle.std.specs.Prelude.{ℕ, zero, suc, ◌==◌, Bool, true, false, if◌then◌else◌}
use Rattle.std.specs.Prelude.{List, [], ◌∷◌, length, drop, Option, Some, None}
use Rattle.acpi_base.specs.Walk.{place_offset, place_width}
use Rattle.acpi_base.specs.declared.walk.Place.{Place}
use Rattle.acpi_base.specs.declared.walk.Place.TheVariants.{Nowhere}
use Rattle.acpi_base.specs.declared.walk.Sizes.{Sizes}
use Rattle.acpi_base.specs.declared.walk.Sizes.TheVariants.{EachOf, ToldAt, ByType}
use Rattle.acpi_base.specs.declared.walk.Walk.{Walk}
use Rattle.acpi_text.specs.Structure.{all_forms}
use Rattle.acpi_text.specs.declared.form.Inner.{Inner}
use Rattle.acpi_text.specs.declared.form.InnerForm.{InnerForm}
use Rattle.acpi_text.specs.declared.form.InnerList.{InnerList}
use Rattle.acpi_text.specs.declared.form.InnerSize.{InnerSize}
use Rattle.acpi_text.specs.declared.form.InnerSize.TheVariants.{Walked, Counted, Rest}
use Rattle.acpi_text.specs.declared.form.StructureForm.{StructureForm}
use Rattle.acpi_make.specs.Complete.{length_own}
use Rattle.acpi_make.specs.Draft.{Drafted, first_of}
use Rattle.acpi_make.specs.Fault.{Fault}
use Rattle.acpi_make.specs.Heading.{structure_form}
use Rattle.acpi_make.specs.Inner.{titled, next_titled}
use Rattle.acpi_make.specs.Lack.{lists_of, short_of}
use Rattle.acpi_make.specs.Own.{next_start}
use Rattle.acpi_make.specs.Source.{Source}
use Rattle.acpi_make.specs.Text.{part_at, after_offset}
use Rattle.acpi_make.specs.declared.draft.Mark.{Mark}
use Rattle.acpi_make.specs.declared.draft.Mark.TheVariants.{Structure, Line, Reference}
use Rattle.acpi_make.specs.declared.file_kind.FileKind.{FileKind}
use Rattle.acpi_make.specs.declared.item.Cell.{Cell}
use Rattle.acpi_make.specs.declared.item.Cell.TheVariants.{Byte, Left}

-- ---- lengths that are left out

-- whether one of the first w bytes isn't known
abbrev pub any_left : ℕ → List Cell → Bool
any_left zero cells = false
any_left (suc w) [] = false
any_left (suc w) (Left place ∷ cells) = true
any_left (suc w) (Byte b ∷ cells) = any_left w cells

-- the place of the length of a structure
abbrev pub place_of_size : Sizes → Place
place_of_size (ToldAt place) = place
place_of_size (EachOf size) = Nowhere
place_of_size (ByType kind types) = Nowhere

abbrev pub size_place : Option Walk → Place
size_place (Some walk) = place_of_size walk.sizes
size_place None = Nowhere

-- the place of what says how long a structure within another is: its length, or the number of its entries
abbrev pub inner_place : InnerSize → Place
inner_place (Walked sizes) = place_of_size sizes
inner_place (Counted n count each) = count
inner_place Rest = Nowhere

-- whether a byte of the field at a place of a structure at this offset isn't known
abbrev pub leaves_out : Place → ℕ → List Cell → Bool
leaves_out place at cells = any_left (place_width place) (drop (place_offset place) (drop at cells))

-- whether the text leaves out how long a structure is: its length, or the table's if the structure has no length
abbrev pub leaves_out_length : Place → Bool → ℕ → List Cell → Bool
leaves_out_length place no_length at cells = if place_width place == 0 then no_length else leaves_out place at cells

-- whether a byte of the table's length isn't known
abbrev pub leaves_out_table_length : FileKind → List Cell → Bool
leaves_out_table_length file_kind cells = any_left 4 (drop (length_own file_kind (length cells)).offset cells)

-- ---- what lacks fields

-- A structure of this form at an offset. The marks are those after its heading. `no_length` says whether the table's length is
-- left out.
abbrev pub short_structure : List ℕ → Place → Bool → List Cell → List Mark → ℕ → Option StructureForm → Option Fault
short_structure text place no_length cells marks at None = None
short_structure text place no_length cells marks at (Some form) =
    if leaves_out_length place no_length at cells
    then short_of (record {
      text = text;
      lists = lists_of form.inner.now;
      marks = marks;
      parts = form.parts.now;
      cells = drop at cells;
      total = length cells;
    }) at (next_start marks (length cells))
    else None

-- a structure within another, of this form at an offset; the marks are those after its name
abbrev pub short_titled : List ℕ → List InnerList → List Cell → List Mark → ℕ → Option InnerForm → Option Fault
short_titled text lists cells marks at None = None
short_titled text lists cells marks at (Some form) =
    if leaves_out (inner_place form.size) at cells
    then short_of (record {
      text = text;
      lists = lists;
      marks = marks;
      parts = form.parts.now;
      cells = drop at cells;
      total = length cells;
    }) at (next_titled text lists marks (length cells))
    else None

-- the first structure of these lists that lacks fields, up to the next structure
abbrev pub short_inners : List ℕ → List InnerList → List Cell → List Mark → Option Fault
short_inners text lists cells [] = None
short_inners text lists cells (Structure at from to ∷ marks) = None
short_inners text lists cells (Line at from to ∷ marks) =
    first_of
    (short_titled text lists cells marks at (titled (after_offset (part_at from to text)) lists))
    (short_inners text lists cells marks)
short_inners text lists cells (Reference at w from to ∷ marks) = short_inners text lists cells marks

abbrev pub short_within : List ℕ → Inner → List Cell → List Mark → Option Fault
short_within text inner cells marks = short_inners text (lists_of inner) cells marks

-- those within a structure of a form
abbrev pub short_of_form : List ℕ → Option StructureForm → List Cell → List Mark → Option Fault
short_of_form text (Some form) cells marks = short_within text form.inner.now cells marks
short_of_form text None cells marks = None

-- the first structure that lacks fields, or has a structure within it that does
abbrev pub short_in : Source → Place → Bool → List Cell → List Mark → Option Fault
short_in s place no_length cells [] = None
short_in s place no_length cells (Structure at from to ∷ marks) =
    let form = structure_form s.kind (all_forms s.form) (part_at from to s.text) (drop at cells) in
    first_of (short_structure s.text place no_length cells marks at form)
    (first_of (short_of_form s.text form cells marks) (short_in s place no_length cells marks))
short_in s place no_length cells (Line at from to ∷ marks) = short_in s place no_length cells marks
short_in s place no_length cells (Reference at w from to ∷ marks) = short_in s place no_length cells marks

-- the fields of a table before structures
abbrev pub short_table : Bool → Source → List Cell → List Mark → Option Fault
short_table no_length s cells marks =
    if no_length
    then short_of (record {
      text = s.text;
      lists = lists_of s.form.inner.now;
      marks = marks;
      parts = s.form.parts.now;
      cells = cells;
      total = length cells;
    }) 0 (next_start marks (length cells))
    else None

-- the table, a structure within it that isn't in another, or the first of its structures that lacks fields
abbrev pub short : FileKind → Option Walk → Source → Drafted → Option Fault
short file_kind walk s d =
    first_of (short_table (leaves_out_table_length file_kind d.cells) s d.cells d.marks)
    (first_of
    (short_within s.text s.form.inner.now d.cells d.marks)
    (short_in s (size_place walk) (leaves_out_table_length file_kind d.cells) d.cells d.marks))
