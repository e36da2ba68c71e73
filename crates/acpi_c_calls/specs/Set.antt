-- Fields that a writer sets in a table.
use Rattle.std.specs.Prelude.{ℕ, ◌+◌, ◌-◌, ◌==◌, nat_le, ◌&&◌, if◌then◌else◌, List, [], length, Option, Some, None, Result, Ok}
use Rattle.std.specs.Prelude.{Err}
use Rattle.acpi_base.specs.Bytes.{le, put}
use Rattle.acpi_base.specs.declared.walk.Walk.{Walk}
use Rattle.acpi_make.specs.Fits.{fits}
use Rattle.acpi_text.specs.Form.{number_at}
use Rattle.acpi_text.specs.Structure.{all_forms, find_form, form_parts}
use Rattle.acpi_text.specs.declared.form.Part.{Part}
use Rattle.acpi_text.specs.declared.form.TableForm.{TableForm}
use Rattle.acpi_c_calls.specs.Add.{piece_from}
use Rattle.acpi_c_calls.specs.Seek.{seek_parts}
use Rattle.acpi_c_calls.specs.Writer.{Written, adds_bytes}
use Rattle.acpi_c_calls.specs.declared.fault.Fault.{Fault}
use Rattle.acpi_c_calls.specs.declared.fault.Fault.TheVariants as fault
use Rattle.acpi_c_calls.specs.declared.seek.Sought.{Sought}
use Rattle.acpi_c_calls.specs.declared.seek.Sought.TheVariants.{Found}
use Rattle.acpi_c_calls.specs.declared.state.State.{State}

-- the parts of a structure by its type
abbrev pub structure_parts : Option Walk → TableForm → List ℕ → List Part
structure_parts (Some walk) form piece = form_parts (find_form (number_at walk.kind piece) (all_forms form))
structure_parts None form piece = []

-- the parts of the structure at an offset; at 0 those of the table itself
abbrev pub parts_from : ℕ → TableForm → Option Walk → List ℕ → List Part
parts_from offset form walk piece = if offset == 0 then form.parts.now else structure_parts walk form piece

-- the first field with a name of the structure that begins at an offset, which reaches to the end of what is written
abbrev pub sought_from : ℕ → List ℕ → TableForm → Option Walk → List ℕ → State → Sought
sought_from offset name form walk old before =
    seek_parts name (before.size - offset) (piece_from offset old before) 0
    (parts_from offset form walk (piece_from offset old before))

-- bytes over others, and nothing else
abbrev pub over : ℕ → List ℕ → List ℕ → State → Written
over at piece old before = record { bytes = put at piece old; state = before }

-- ---- numbers

abbrev pub sets_found : ℕ → ℕ → Sought → List ℕ → State → Result Written Fault
sets_found offset value (Found at w) old before =
    if nat_le w 8 && fits w value then Ok (over (offset + at) (le w value) old before) else Err fault.WantsNumber
sets_found offset value _ old before = Err fault.WantsFieldOf

-- a number in a field, which has as many bytes as it may have
abbrev pub sets : ℕ → List ℕ → ℕ → TableForm → Option Walk → List ℕ → State → Result Written Fault
sets offset name value form walk old before =
    if nat_le offset before.size
    then sets_found offset value (sought_from offset name form walk old before) old before
    else Err fault.Outside

-- ---- bytes

abbrev pub sets_bytes_found : ℕ → List ℕ → Sought → List ℕ → State → Result Written Fault
sets_bytes_found offset content (Found at w) old before =
    if length content == w then Ok (over (offset + at) content old before) else Err fault.WantsWidth
sets_bytes_found offset content _ old before = Err fault.WantsFieldOf

-- as many bytes as a field has
abbrev pub sets_bytes : ℕ → List ℕ → List ℕ → TableForm → Option Walk → List ℕ → State → Result Written Fault
sets_bytes offset name content form walk old before =
    if nat_le offset before.size
    then sets_bytes_found offset content (sought_from offset name form walk old before) old before
    else Err fault.Outside

-- ---- at any offset

-- bytes over those that are written at an offset
abbrev pub overwrites : ℕ → List ℕ → List ℕ → State → Result Written Fault
overwrites offset content old before =
    if nat_le (offset + length content) before.size && nat_le before.size (length old)
    then Ok (over offset content old before)
    else Err fault.Outside

-- a number of 1 to 8 bytes, lowest first
abbrev pub adds_number : ℕ → ℕ → List ℕ → State → Result Written Fault
adds_number w value old before =
    if nat_le w 8 && fits w value then adds_bytes (le w value) old before else Err fault.WantsNumber
