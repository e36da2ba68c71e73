-- Structures and fields that a writer adds to a table.
use Rattle.std.specs.Prelude.{ℕ, ◌+◌, ◌-◌, ◌==◌, nat_le, ◌&&◌, Bool, false, if◌then◌else◌, List, [], length, take, drop}
use Rattle.std.specs.Prelude.{Option, Some, None, Result, Ok, Err}
use Rattle.acpi_base.specs.Bytes.{put, zeros}
use Rattle.acpi_base.specs.Walk.{end_of, number_in, rows_of, type_size}
use Rattle.acpi_base.specs.declared.walk.Place.{Place}
use Rattle.acpi_base.specs.declared.walk.Place.TheVariants.{Nowhere}
use Rattle.acpi_base.specs.declared.walk.Sizes.{Sizes}
use Rattle.acpi_base.specs.declared.walk.Sizes.TheVariants.{EachOf, ToldAt, ByType}
use Rattle.acpi_base.specs.declared.walk.Walk.{Walk}
use Rattle.acpi_text.specs.Form.{number_at}
use Rattle.acpi_text.specs.Structure.{all_forms, find_form}
use Rattle.acpi_text.specs.declared.form.StructureForm.{StructureForm}
use Rattle.acpi_text.specs.declared.form.TableForm.{TableForm}
use Rattle.acpi_c_calls.specs.Over.{placed, fits_at, next_count}
use Rattle.acpi_c_calls.specs.Seek.{seek_parts, fixed_end}
use Rattle.acpi_c_calls.specs.Writer.{Written, adds_bytes}
use Rattle.acpi_c_calls.specs.declared.fault.Fault.{Fault}
use Rattle.acpi_c_calls.specs.declared.fault.Fault.TheVariants as fault
use Rattle.acpi_c_calls.specs.declared.state.State.{State}

-- ---- tables

-- what a call does with a table, of which at least the header is written
abbrev pub in_table : (List ℕ → State → Result Written Fault) → List ℕ → State → Result Written Fault
in_table call old before =
    if nat_le 36 before.size && nat_le before.size (length old) then call old before else Err fault.ShortHeader

-- ---- one structure

-- the field of a structure that contains its length
abbrev pub told_place : Sizes → Place
told_place (ToldAt place) = place
told_place (EachOf size) = Nowhere
told_place (ByType kind types) = Nowhere

-- a structure of this type and of this size, whose other bytes are zero
abbrev pub fresh : Walk → ℕ → ℕ → List ℕ
fresh walk kind size = placed (told_place walk.sizes) size (placed walk.kind kind (zeros size))

-- a table with the offset of its first structure, unless it has one
abbrev pub pointed : Walk → ℕ → List ℕ → List ℕ
pointed walk start bytes = if number_at walk.first bytes == 0 then placed walk.first start bytes else bytes

-- a table with a structure at its end: its type, its size, and how many structures there are with it
abbrev pub with_structure : Walk → ℕ → ℕ → ℕ → List ℕ → State → Written
with_structure walk kind size count old before = record {
  bytes = placed walk.count count (pointed walk before.size (put before.size (fresh walk kind size) old));
  state = record before { size = before.size + size };
}

abbrev pub adds_counted : Walk → ℕ → ℕ → Option ℕ → List ℕ → State → Result Written Fault
adds_counted walk kind size (Some count) old before =
    if fits_at (told_place walk.sizes) size then Ok (with_structure walk kind size count old before) else Err fault.Structure
adds_counted walk kind size None old before = Err fault.Count

abbrev pub adds_sized : Walk → ℕ → Option ℕ → List ℕ → State → Result Written Fault
adds_sized walk kind (Some size) old before = adds_counted walk kind size (next_count walk.count old) old before
adds_sized walk kind None old before = Err fault.Buffer

-- a structure of a form: the fields before its first list
abbrev pub adds_form : Walk → Option StructureForm → List ℕ → State → Result Written Fault
adds_form walk (Some form) old before =
    adds_sized walk form.number (fixed_end (seek_parts [] (length old - before.size) [] 0 form.parts.now)) old before
adds_form walk None old before = Err fault.WantsStructure

-- a structure of a type, after the table's own fields
abbrev pub adds_structure : ℕ → TableForm → Option Walk → List ℕ → State → Result Written Fault
adds_structure kind form (Some walk) old before =
    if nat_le walk.start before.size then adds_form walk (find_form kind (all_forms form)) old before else Err fault.WantsWhole
adds_structure kind form None old before = Err fault.WantsStructure

-- ---- one structure, as its bytes

abbrev pub is_size : Option ℕ → ℕ → Bool
is_size (Some size) n = size == n
is_size None n = false

-- whether bytes are one structure: their number is the length that its type or its length field gives
abbrev pub is_piece : Sizes → List ℕ → Bool
is_piece (EachOf size) piece = length piece == size
is_piece (ToldAt place) piece = nat_le (end_of place) (length piece) && number_in place piece == length piece
is_piece (ByType kind types) piece = is_size (type_size kind (rows_of types) piece) (length piece)

-- a table with these bytes at its end, and how many structures there are with them
abbrev pub with_piece : Walk → List ℕ → ℕ → List ℕ → State → Written
with_piece walk piece count old before = record {
  bytes = placed walk.count count (pointed walk before.size (put before.size piece old));
  state = record before { size = before.size + length piece };
}

abbrev pub adds_piece_counted : Walk → List ℕ → Option ℕ → List ℕ → State → Result Written Fault
adds_piece_counted walk piece (Some count) old before =
    if nat_le (before.size + length piece) (length old) then Ok (with_piece walk piece count old before) else Err fault.Buffer
adds_piece_counted walk piece None old before = Err fault.Count

abbrev pub adds_piece_by : Walk → List ℕ → List ℕ → State → Result Written Fault
adds_piece_by walk piece old before =
    if is_piece walk.sizes piece
    then adds_piece_counted walk piece (next_count walk.count old) old before
    else Err fault.Structure

-- bytes that are one structure, after the table's own fields
abbrev pub adds_piece : List ℕ → Option Walk → List ℕ → State → Result Written Fault
adds_piece piece (Some walk) old before =
    if nat_le walk.start before.size then adds_piece_by walk piece old before else Err fault.WantsWhole
adds_piece piece None old before = Err fault.WantsStructure

-- ---- the table's own fields

abbrev pub adds_to : Option ℕ → List ℕ → State → Result Written Fault
adds_to (Some end) old before = adds_bytes (zeros (end - before.size)) old before
adds_to None old before = Err fault.Buffer

-- the fields of a table that aren't written yet, up to its first list: all are zero
abbrev pub adds_fields : TableForm → Option Walk → List ℕ → State → Result Written Fault
adds_fields form walk old before =
    adds_to (fixed_end (seek_parts [] (length old) (take before.size old) 0 form.parts.now)) old before

-- ---- a structure that ends

-- the bytes of a structure that reaches to the end of what is written
abbrev pub piece_from : ℕ → List ℕ → State → List ℕ
piece_from offset old before = take (before.size - offset) (drop offset old)

-- the length of the structure at an offset is the number of the bytes from there on
abbrev pub ends_by : Place → ℕ → List ℕ → State → Result Written Fault
ends_by told offset old before =
    if fits_at told (before.size - offset)
    then Ok (record {
      bytes = put offset (placed told (before.size - offset) (piece_from offset old before)) old;
      state = before;
    })
    else Err fault.Structure

abbrev pub ends_structure : ℕ → TableForm → Option Walk → List ℕ → State → Result Written Fault
ends_structure offset form (Some walk) old before =
    if nat_le offset before.size then ends_by (told_place walk.sizes) offset old before else Err fault.Outside
ends_structure offset form None old before = Err fault.WantsStructure
