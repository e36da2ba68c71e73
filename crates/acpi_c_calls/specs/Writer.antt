-- Writers of AML: what each call leaves in the caller's buffer and in the writer's state.
use Rattle.std.specs.Prelude.{◌≡◌, ℕ, ◌+◌, ◌-◌, ◌==◌, nat_eq, nat_le, nat_lt, ◌&&◌, ◌||◌, Bool, true, false, if◌then◌else◌}
use Rattle.std.specs.Prelude.{List, [], ◌++◌, length, take, drop, slice_index, slice_set, Option, Some, None, Result, Ok, Err}
use Rattle.acpi_base.specs.Bytes.{put}
use Rattle.acpi_base.specs.Number.{number}
use Rattle.acpi_base.specs.Object.{Object}
use Rattle.acpi_base.specs.declared.error.Error.{Error}
use Rattle.acpi_base.specs.declared.error.Error.TheVariants as errors
use Rattle.acpi_term.specs.Length.{least_width, with_length}
use Rattle.acpi_term.specs.Row.{Layout, bare, framed, before_of, layout, own, frame_end}
use Rattle.acpi_term.specs.Template.{end_tag}
use Rattle.acpi_term.specs.Tree.{Head}
use Rattle.acpi_c_calls.specs.Fault.{number_of}
use Rattle.acpi_c_calls.specs.declared.fault.Fault.{Fault}
use Rattle.acpi_c_calls.specs.declared.fault.Fault.TheVariants as fault
use Rattle.acpi_c_calls.specs.declared.state.State.{State}

-- ---- what every call has in common

-- the bytes of the buffer, and the state
pub record Written : Type 0 where
  pub bytes : List ℕ
  pub state : State

-- A call is done and returns 0. Or it has a fault, which is kept as the first one, and changes nothing else.
abbrev pub IsDone : Result Written Fault → List ℕ → State → List ℕ → State → ℕ → Type 0
IsDone (Ok done) old before new after number = (number ≡ 0) × (new ≡ done.bytes) × (after ≡ done.state)
IsDone (Err f) old before new after number =
    (number ≡ number_of f) × (new ≡ old) × (after ≡ record before { fault = number_of f })

-- after a fault a call changes nothing, and returns this fault again
abbrev pub IsTried : Bool → Result Written Fault → List ℕ → State → List ℕ → State → ℕ → Type 0
IsTried true outcome old before new after number = IsDone outcome old before new after number
IsTried false outcome old before new after number = (number ≡ before.fault) × (new ≡ old) × (after ≡ before)

-- The old buffer and state, the new ones, and the returned number, of a call that does this if there was no fault before.
abbrev pub Writes : (List ℕ → State → Result Written Fault) → List ℕ → State → List ℕ → State → ℕ → Type 0
Writes call old before new after number = IsTried (nat_eq before.fault 0) (call old before) old before new after number

-- ---- errors of objects

-- the fault of an error that an object of AML can have
abbrev pub fault_of_error : Error → Fault
fault_of_error errors.Memory = fault.Memory
fault_of_error errors.NamePart = fault.NamePart
fault_of_error errors.PathParts = fault.PathParts
fault_of_error errors.EisaText = fault.EisaText
fault_of_error errors.UuidText = fault.UuidText
fault_of_error errors.ArgNumber = fault.ArgNumber
fault_of_error errors.LocalNumber = fault.LocalNumber
fault_of_error errors.MethodArgs = fault.MethodArgs
fault_of_error errors.PkgLength = fault.ObjectLength
fault_of_error errors.AddressRange = fault.AddressRange
fault_of_error _ = fault.WriterState

abbrev pub or_fault : {A : Type 0} → A → Option Error → Result A Fault
or_fault found None = Ok found
or_fault found (Some error) = Err (fault_of_error error)

-- the bytes of an object, or the fault of its error
abbrev pub piece_of : Object → Result (List ℕ) Fault
piece_of object = or_fault object.front object.end

-- ---- bytes at the end

-- bytes after those before, if there is space
abbrev pub adds_bytes : List ℕ → List ℕ → State → Result Written Fault
adds_bytes piece old before =
    if nat_le (before.size + length piece) (length old)
    then Ok (record { bytes = put before.size piece old; state = record before { size = before.size + length piece } })
    else Err fault.Buffer

-- the bytes of a piece, or its fault
abbrev pub adds : Result (List ℕ) Fault → List ℕ → State → Result Written Fault
adds (Ok piece) old before = adds_bytes piece old before
adds (Err f) old before = Err f

-- a piece of an object with a name, or the fault of the name
abbrev pub adds_named : (List ℕ → Head) → Result (List ℕ) Fault → List ℕ → State → Result Written Fault
adds_named head (Ok path) old before = adds_bytes (before_of (layout (head path) 0 0)) old before
adds_named head (Err f) old before = Err f

-- ---- objects that are opened and closed

-- an opcode and bytes after it, if there is space, and the place between them, where the PkgLength goes
abbrev pub opens_bytes : ℕ → List ℕ → List ℕ → List ℕ → State → Result Written Fault
opens_bytes kind code inside old before =
    if nat_le (before.size + length (code ++ inside)) (length old)
    then Ok (record {
      bytes = put before.size (code ++ inside) old;
      state = record before {
        size = before.size + length (code ++ inside);
        depth = before.depth + 1;
        marks = slice_set before.marks before.depth (before.size + length code);
        kinds = slice_set before.kinds before.depth kind;
      };
    })
    else Err fault.Buffer

abbrev pub opens : ℕ → List ℕ → List ℕ → List ℕ → State → Result Written Fault
opens kind code inside old before =
    if nat_lt before.depth 32 then opens_bytes kind code inside old before else Err fault.TooManyOpen

-- an object of these bytes around its content, unless its own values have an error
abbrev pub opens_own : ℕ → Option Error → Layout → List ℕ → State → Result Written Fault
opens_own kind None (framed code inside after) old before = opens kind code inside old before
opens_own kind None (bare inside) old before = adds_bytes inside old before
opens_own kind (Some error) around old before = Err (fault_of_error error)

-- an object of this head with n children
abbrev pub opens_row : ℕ → Head → ℕ → List ℕ → State → Result Written Fault
opens_row kind head n old before = opens_own kind (own head n) (layout head 0 n) old before

-- an object with a name, or the fault of the name
abbrev pub opens_named : (List ℕ → Head) → Result (List ℕ) Fault → List ℕ → State → Result Written Fault
opens_named head (Ok path) old before = opens_row 0 (head path) 0 old before
opens_named head (Err f) old before = Err f

-- what closing an object adds before a content of this size: that of a buffer, and of resource descriptors with the end tag
abbrev pub size_before : ℕ → ℕ → List ℕ
size_before kind size = if kind == 0 then [] else (if kind == 1 then number size else number (size + length end_tag))

-- what it adds after the content: the end tag after resource descriptors
abbrev pub tag_after : ℕ → List ℕ
tag_after kind = if kind == 0 || kind == 1 then [] else end_tag

-- what is in the frame of an object that is closed
abbrev pub inside : ℕ → List ℕ → List ℕ
inside kind content = size_before kind (length content) ++ (content ++ tag_after kind)

-- the bytes from a place on are these, if there is space, and one object less is open
abbrev pub closes_to : ℕ → List ℕ → List ℕ → State → Result Written Fault
closes_to start bytes old before =
    if nat_le (start + length bytes) (length old)
    then Ok (record {
      bytes = put start bytes old;
      state = record before { size = start + length bytes; depth = before.depth - 1 };
    })
    else Err fault.Buffer

-- the bytes from a place on are a PkgLength of the least width and a content, unless that is too long
abbrev pub closes_frame : Option Error → ℕ → List ℕ → List ℕ → State → Result Written Fault
closes_frame None start content old before = closes_to start (with_length (least_width (length content)) content) old before
closes_frame (Some error) start content old before = Err (fault_of_error error)

abbrev pub closes_inside : ℕ → List ℕ → List ℕ → State → Result Written Fault
closes_inside start content old before = closes_frame (frame_end (length content)) start content old before

-- what is written from a place on
abbrev pub content_from : ℕ → List ℕ → State → List ℕ
content_from start old before = take (before.size - start) (drop start old)

-- the object whose PkgLength goes to this place, of this kind
abbrev pub closes_at : ℕ → ℕ → List ℕ → State → Result Written Fault
closes_at start kind old before =
    if nat_le start before.size && nat_le before.size (length old)
    then closes_inside start (inside kind (content_from start old before)) old before
    else Err fault.WriterState

-- the object that was opened last and is still open
abbrev pub closes : List ℕ → State → Result Written Fault
closes old before =
    if before.depth == 0 then Err fault.NoneOpen
    else (if nat_le before.depth 32
    then closes_at (slice_index before.marks (before.depth - 1)) (slice_index before.kinds (before.depth - 1)) old before
    else Err fault.WriterState)
