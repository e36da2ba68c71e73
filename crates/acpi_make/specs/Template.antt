-- A text of a form for a start.
use Rattle.std.specs.Prelude.{ℕ, zero, suc, ◌+◌, ◌*◌, ◌^◌, ◌==◌, nat_lt, nat_le, not, ◌&&◌, ◌||◌, Bool, false, if◌then◌else◌}
use Rattle.std.specs.Prelude.{List, [], ◌∷◌, ◌++◌, length, codes, Option, Some, None}
use Rattle.std.specs.List.{flat_map, slice_range}
use Rattle.acpi_base.specs.Bytes.{le}
use Rattle.acpi_base.specs.Fields.{row_width}
use Rattle.acpi_base.specs.Gas.{address_spaces, access_sizes}
use Rattle.acpi_base.specs.Look.{Look, Part as Bits, one_flag, one_choice, one_number}
use Rattle.acpi_base.specs.Look as looks
use Rattle.acpi_base.specs.Walk.{place_offset, place_width}
use Rattle.acpi_base.specs.declared.row.Row.{Row}
use Rattle.acpi_base.specs.declared.row.Row.TheVariants as rows
use Rattle.acpi_base.specs.declared.walk.Place.{Place}
use Rattle.acpi_base.specs.declared.walk.Sizes.{Sizes}
use Rattle.acpi_base.specs.declared.walk.Sizes.TheVariants.{EachOf, ToldAt, ByType}
use Rattle.acpi_base.specs.declared.walk.Walk.{Walk}
use Rattle.acpi_text.specs.declared.form.Choice.{Choice}
use Rattle.acpi_text.specs.declared.form.Count.{Count}
use Rattle.acpi_text.specs.declared.form.Count.TheVariants.{Field, Rest, Once}
use Rattle.acpi_text.specs.declared.form.Inner.{Inner}
use Rattle.acpi_text.specs.declared.form.Inner.TheVariants.{Nothing, Lists}
use Rattle.acpi_text.specs.declared.form.InnerForm.{InnerForm}
use Rattle.acpi_text.specs.declared.form.InnerList.{InnerList}
use Rattle.acpi_text.specs.declared.form.InnerSize.{InnerSize}
use Rattle.acpi_text.specs.declared.form.InnerSize.TheVariants as sizes
use Rattle.acpi_text.specs.declared.form.Part.{Part}
use Rattle.acpi_text.specs.declared.form.Part.TheVariants as parts
use Rattle.acpi_text.specs.declared.form.StructureForm.{StructureForm}
use Rattle.acpi_text.specs.declared.form.TableForm.{TableForm}
use Rattle.acpi_text.specs.Hex.{number_text}
use Rattle.acpi_text.specs.Label.{label}
use Rattle.acpi_text.specs.Line.{spaces}
use Rattle.acpi_make.specs.Complete.{length_own}
use Rattle.acpi_make.specs.Draft.{is_nameless}
use Rattle.acpi_make.specs.Entry.{row_entry}
use Rattle.acpi_make.specs.declared.file_kind.FileKind.{FileKind}
use Rattle.acpi_make.specs.declared.file_kind.FileKind.TheVariants as kinds
use Rattle.acpi_text.specs.Structure.{all_forms}

-- ---- lists

-- whether a number is among others
abbrev pub is_among : ℕ → List ℕ → Bool
is_among n [] = false
is_among n (m ∷ others) = n == m || is_among n others

abbrev pub times : ℕ → List ℕ → List ℕ
times zero text = []
times (suc n) text = text ++ times n text

-- ---- hints

-- more names, with semicolons between them
abbrev pub more_names : List (ℕ × List ℕ) → List ℕ
more_names [] = []
more_names (word ∷ words) = codes "; " ++ (label word.1 ++ more_names words)

abbrev pub names : List (ℕ × List ℕ) → List ℕ
names [] = []
names (word ∷ words) = label word.1 ++ more_names words

-- what bits can be: the name of a flag or of a number, or the words
abbrev pub part_names : Bits → List ℕ
part_names (one_flag mask name) = label name
part_names (one_choice mask words) = names words
part_names (one_number mask lowest name) = label name

-- more parts of a number, with bars between them
abbrev pub more_parts : List Bits → List ℕ
more_parts [] = []
more_parts (part ∷ parts) = codes " | " ++ (part_names part ++ more_parts parts)

abbrev pub all_parts : List Bits → List ℕ
all_parts [] = []
all_parts (part ∷ parts) = part_names part ++ more_parts parts

-- what a value can be, in a comment
abbrev pub hint : Look → List ℕ
hint (looks.flags parts) = codes "  // " ++ all_parts parts
hint (looks.one_of words) = codes "  // " ++ names words
hint look = []

-- ---- a field

-- What a template has in place of zeros: the signature at offset 0, question marks at the offsets of numbers that are worked out,
-- and 1 at those of other numbers of what stands once.
pub record Known : Type 0 where
  pub signature : List ℕ
  pub own : List ℕ
  pub ones : List ℕ

-- a number of at most eight bytes, or zeros
abbrev pub preset_text : ℕ → ℕ → List ℕ
preset_text w value = if nat_le w 8 then number_text (le w value) else times w (codes "00")

-- the value of a row for a start: the right one, or zeros
abbrev pub zeros : Row → List ℕ
zeros (rows.Number name w) = 32 ∷ times w (codes "00")
zeros (rows.Hex name w) = 32 ∷ times w (codes "00")
zeros (rows.Preset name w value) = 32 ∷ preset_text w value
zeros (rows.Reference name w) = 32 ∷ times w (codes "00")
zeros (rows.Flags name w bits) = 32 ∷ times w (codes "00")
zeros (rows.OneOf name w words) = 32 ∷ times w (codes "00")
zeros (rows.Bytes name n) = times n (codes " 00")
zeros (rows.Text name n) = times n (codes " 00")
zeros (rows.Uuid name) = times 16 (codes " 00")
zeros (rows.Register name) = times 12 (codes " 00")
zeros (rows.Reserved n) = times n (codes " 00")

-- the value of a row that isn't worked out
abbrev pub stated_text : Known → ℕ → Row → List ℕ
stated_text known at row = if is_among at known.ones then 32 ∷ preset_text (row_width row) 1 else zeros row

abbrev pub value_text : Known → ℕ → Row → List ℕ
value_text known at row =
    if at == 0 && not (length known.signature == 0) then codes " \"" ++ (known.signature ++ codes "\"")
    else (if is_among at known.own then 32 ∷ times (row_width row) (codes "??")
    else stated_text known at row)

abbrev pub field_line : ℕ → List ℕ → List ℕ → List ℕ
field_line depth name value = spaces (2 * depth) ++ (codes "  " ++ (label name ++ (58 ∷ (value ++ 10 ∷ []))))

abbrev pub title_line : ℕ → List ℕ → List ℕ
title_line depth name = spaces (2 * depth) ++ (codes "  " ++ (label name ++ 10 ∷ []))

-- the line of a row at an offset
abbrev pub row_line : ℕ → Known → ℕ → Row → List ℕ
row_line depth known at row =
    field_line depth (row_entry row).name (value_text known at row ++ hint (row_entry row).look)

-- the offset after a field of w bytes; no field is at 2^32 or after it
abbrev pub offset_after : ℕ → ℕ → ℕ
offset_after at w = if nat_lt at (2 ^ 32) && nat_lt w (2 ^ 32) then at + w else at

-- the lines of rows of which none is a register
abbrev pub plain_lines : ℕ → Known → ℕ → List Row → List ℕ
plain_lines depth known at [] = []
plain_lines depth known at (row ∷ rows) =
    row_line depth known at row ++ plain_lines depth known (offset_after at (row_width row)) rows

abbrev pub nothing_known : Known
nothing_known = record { signature = []; own = []; ones = [] }

-- the fields of a register's address (ACPI 6.5, 5.2.3.2)
abbrev pub address_lines : ℕ → List ℕ
address_lines depth =
    field_line depth (codes "Address Space ID") (codes " 00" ++ hint (looks.one_of address_spaces))
    ++ (field_line depth (codes "Register Bit Width") (codes " 00" ++ [])
    ++ (field_line depth (codes "Register Bit Offset") (codes " 00" ++ [])
    ++ (field_line depth (codes "Access Size") (codes " 00" ++ hint (looks.one_of access_sizes))
    ++ (field_line depth (codes "Address") (codes " 0000000000000000" ++ []) ++ []))))

abbrev pub row_lines : ℕ → Known → ℕ → Row → List ℕ
row_lines depth known at (rows.Register name) = title_line depth name.now ++ address_lines (depth + 1)
row_lines depth known at row = row_line depth known at row

abbrev pub rows_lines : ℕ → Known → ℕ → List Row → List ℕ
rows_lines depth known at [] = []
rows_lines depth known at (row ∷ rows) =
    row_lines depth known at row ++ rows_lines depth known (offset_after at (row_width row)) rows

abbrev pub rows_end : ℕ → List Row → ℕ
rows_end at [] = at
rows_end at (row ∷ rows) = rows_end (offset_after at (row_width row)) rows

-- ---- parts

abbrev pub choice_lines : ℕ → Known → ℕ → List Choice → List ℕ
choice_lines depth known at [] = []
choice_lines depth known at (choice ∷ choices) =
    if length choice.rows.now == 0 then []
    else title_line depth choice.name.now ++ rows_lines (depth + 1) known at choice.rows.now

abbrev pub choice_end : ℕ → List Choice → ℕ
choice_end at [] = at
choice_end at (choice ∷ choices) = rows_end at choice.rows.now

-- one of each entry, the first choice, and no bytes where their number can be any
abbrev pub part_lines : ℕ → Known → ℕ → Part → List ℕ
part_lines depth known at (parts.Fields rows) = rows_lines depth known at rows.now
part_lines depth known at (parts.Between rows from to) = rows_lines depth known at (slice_range rows.now from to)
part_lines depth known at (parts.Group name rows) = title_line depth name.now ++ rows_lines (depth + 1) known at rows.now
part_lines depth known at (parts.Entries name count rows) =
    title_line depth name.now ++ rows_lines (depth + 1) nothing_known at rows.now
part_lines depth known at (parts.Numbers name w count) = field_line depth name.now (32 ∷ times w (codes "00"))
part_lines depth known at (parts.Matrix name w rows columns) = field_line depth name.now (32 ∷ times w (codes "00"))
part_lines depth known at (parts.Bytes name count) = field_line depth name.now (codes " \"\"")
part_lines depth known at (parts.Until name end) =
    if is_nameless name.now then [] else field_line depth name.now (codes " \"\"")
part_lines depth known at (parts.Chosen by choices) = choice_lines depth known at choices.now
part_lines depth known at (parts.BySize from to choices) = choice_lines depth known at choices.now

abbrev pub part_end : ℕ → Part → ℕ
part_end at (parts.Fields rows) = rows_end at rows.now
part_end at (parts.Between rows from to) = rows_end at (slice_range rows.now from to)
part_end at (parts.Group name rows) = rows_end at rows.now
part_end at (parts.Entries name count rows) = rows_end at rows.now
part_end at (parts.Numbers name w count) = offset_after at w
part_end at (parts.Matrix name w rows columns) = offset_after at w
part_end at (parts.Bytes name count) = at
part_end at (parts.Until name end) = at
part_end at (parts.Chosen by choices) = choice_end at choices.now
part_end at (parts.BySize from to choices) = choice_end at choices.now

abbrev pub parts_lines : ℕ → Known → ℕ → List Part → List ℕ
parts_lines depth known at [] = []
parts_lines depth known at (part ∷ list) = part_lines depth known at part ++ parts_lines depth known (part_end at part) list

-- ---- the offsets of a table's own numbers

abbrev pub place_at : Place → List ℕ
place_at place = if place_width place == 0 then [] else place_offset place ∷ []

abbrev pub size_at : Sizes → List ℕ
size_at (EachOf n) = []
size_at (ToldAt place) = place_at place
size_at (ByType kind types) = []

abbrev pub counted_at : Count → List ℕ
counted_at (Field place) = place_at place
counted_at Rest = []
counted_at Once = []

abbrev pub count_at : Part → List ℕ
count_at (parts.Fields rows) = []
count_at (parts.Between rows from to) = []
count_at (parts.Group name rows) = []
count_at (parts.Entries name count rows) = counted_at count
count_at (parts.Numbers name w count) = counted_at count
count_at (parts.Matrix name w rows columns) = []
count_at (parts.Bytes name count) = place_at count
count_at (parts.Until name end) = place_at end
count_at (parts.Chosen by choices) = []
count_at (parts.BySize from to choices) = []

abbrev pub counts_at : List Part → List ℕ
counts_at list = flat_map count_at list

-- the offsets of the numbers of what stands once in a template: an entry, and a matrix's row and its column
abbrev pub ones_at : Part → List ℕ
ones_at (parts.Entries name count rows) = counted_at count
ones_at (parts.Numbers name w count) = counted_at count
ones_at (parts.Matrix name w rows columns) = place_at rows ++ place_at columns
ones_at part = []

abbrev pub all_ones : List Part → List ℕ
all_ones list = flat_map ones_at list

-- ---- structures and tables

-- the offset of the number that a structure within another has of its size
abbrev pub inner_size_at : InnerSize → List ℕ
inner_size_at (sizes.Walked told) = size_at told
inner_size_at (sizes.Counted n count each) = place_at count
inner_size_at sizes.Rest = []

-- A structure within another: its name and its parts. The numbers of its entries aren't worked out.
abbrev pub inner_form_lines : InnerForm → List ℕ
inner_form_lines form =
    title_line 0 form.name.now
    ++ parts_lines 1 (record { signature = []; own = inner_size_at form.size; ones = all_ones form.parts.now }) 0 form.parts.now

abbrev pub inner_forms_lines : List InnerForm → List ℕ
inner_forms_lines forms = flat_map inner_form_lines forms

abbrev pub inner_list_lines : InnerList → List ℕ
inner_list_lines list = inner_forms_lines list.forms.now

abbrev pub inner_lists_lines : List InnerList → List ℕ
inner_lists_lines lists = flat_map inner_list_lines lists

abbrev pub inner_lines : Inner → List ℕ
inner_lines Nothing = []
inner_lines (Lists start lists) = inner_lists_lines lists.now

-- the offsets of the numbers that the outer structure has of those within it
abbrev pub lists_counts_at : List InnerList → List ℕ
lists_counts_at lists = flat_map (λ list. counted_at list.count) lists

abbrev pub inner_counts_at : Inner → List ℕ
inner_counts_at Nothing = []
inner_counts_at (Lists start lists) = lists_counts_at lists.now

abbrev pub structure_known : Walk → List Part → Inner → Known
structure_known walk list inner = record {
  signature = [];
  own = place_at walk.kind ++ (size_at walk.sizes ++ (counts_at list ++ inner_counts_at inner));
  ones = all_ones list;
}

-- a structure's name and its parts
abbrev pub structure_lines : Walk → StructureForm → List ℕ
structure_lines walk form =
    label form.name.now
    ++ (10 ∷ (parts_lines 0 (structure_known walk form.parts.now form.inner.now) 0 form.parts.now ++ inner_lines form.inner.now))

abbrev pub structures_lines : Walk → List StructureForm → List ℕ
structures_lines walk forms = flat_map (structure_lines walk) forms

-- the checksums
abbrev pub sums_at : FileKind → List ℕ
sums_at kinds.Table = 9 ∷ []
sums_at kinds.Rsdp = 8 ∷ 32 ∷ []
sums_at kinds.Facs = []
sums_at kinds.Cdat = 5 ∷ []
sums_at kinds.S3pt = []

abbrev pub walk_at : Option Walk → List ℕ
walk_at (Some walk) = place_at walk.count ++ place_at walk.first
walk_at None = []

abbrev pub table_own : FileKind → Option Walk → TableForm → List ℕ
table_own file_kind walk form =
    (length_own file_kind 0).offset
    ∷ (sums_at file_kind ++ (walk_at walk ++ (counts_at form.parts.now ++ inner_counts_at form.inner.now)))

abbrev pub table_known : List ℕ → FileKind → Option Walk → TableForm → Known
table_known signature file_kind walk form = record {
  signature = signature;
  own = table_own file_kind walk form;
  ones = all_ones form.parts.now;
}

-- one structure of each kind; without a walk, the structures that the form has
abbrev pub structures_text : Option Walk → TableForm → List ℕ
structures_text (Some walk) form = structures_lines walk (all_forms form)
structures_text None form = inner_lines form.inner.now

-- a table's name, its parts, and one structure of each kind
abbrev pub template_text : List ℕ → FileKind → TableForm → Option Walk → List ℕ
template_text signature file_kind form walk =
    label form.name.now
    ++ (10 ∷ (parts_lines 0 (table_known signature file_kind walk form) 0 form.parts.now
    ++ structures_text walk form))
