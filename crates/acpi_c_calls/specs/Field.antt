-- Fields that a writer opens, and their entries (ACPI 6.5, 20.2.5.2).
use Rattle.std.specs.Prelude.{ℕ, ◌==◌, nat_le, ◌&&◌, Bool, if◌then◌else◌, List, [], ◌∷◌, length, Result, Ok, Err}
use Rattle.acpi_term.specs.Row.{entry_bytes, entries_end, named_entry, reserved_entry}
use Rattle.acpi_term.specs.Tree.{Entry, Head}
use Rattle.acpi_c_calls.specs.Writer.{Written, or_fault, opens_row}
use Rattle.acpi_c_calls.specs.declared.fault.Fault.{Fault}
use Rattle.acpi_c_calls.specs.declared.fault.Fault.TheVariants as fault
use Rattle.acpi_c_calls.specs.declared.state.State.{State}

-- ---- fields

-- LockRule
abbrev pub lock_rule : Bool → ℕ
lock_rule lock = if lock then 1 else 0

-- AccessType and UpdateRule are values of the standard
abbrev pub are_flags : ℕ → ℕ → Bool
are_flags access update = nat_le access 5 && nat_le update 2

-- a field with a name, or the fault of the name, or that of the flags
abbrev pub opens_field : ℕ → ℕ → (List ℕ → Head) → Result (List ℕ) Fault → List ℕ → State → Result Written Fault
opens_field access update head (Ok name) old before =
    if are_flags access update then opens_row 0 (head name) 0 old before else Err fault.Flags
opens_field access update head (Err f) old before = Err f

-- the same with the name of an index before it
abbrev pub opens_index_field : ℕ → ℕ → (List ℕ → List ℕ → Head) → Result (List ℕ) Fault → Result (List ℕ) Fault → List ℕ → State
    → Result Written Fault
opens_index_field access update head (Ok index) name old before = opens_field access update (head index) name old before
opens_index_field access update head (Err f) name old before = Err f

-- ---- entries

-- an entry, or the fault of its number of bits
abbrev pub entry_piece : Entry → Result (List ℕ) Fault
entry_piece entry = or_fault (entry_bytes entry) (entries_end (entry ∷ []))

-- NamedField, or the fault of a name that doesn't have four bytes
abbrev pub unit_piece : List ℕ → ℕ → Result (List ℕ) Fault
unit_piece name bits = if length name == 4 then entry_piece (named_entry name bits) else Err fault.NamePart

-- ReservedField
abbrev pub gap_piece : ℕ → Result (List ℕ) Fault
gap_piece bits = entry_piece (reserved_entry bits)
