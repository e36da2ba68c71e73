-- The rows of AML's format: the bytes around those of a term's children, and the term's errors.
use Rattle.std.specs.Prelude.{ℕ, ◌+◌, ◌*◌, ◌^◌, nat_lt, nat_le, Bool, if◌then◌else◌}
use Rattle.std.specs.Prelude.{List, [], ◌∷◌, ◌++◌, length, Option, Some, None}
use Rattle.acpi_base.specs.declared.error.Error.{Error}
use Rattle.acpi_base.specs.declared.error.Error.TheVariants.{ArgNumber, LocalNumber, MethodArgs, PackageElements, PkgLength}
use Rattle.acpi_base.specs.Bytes.{le}
use Rattle.acpi_base.specs.Number.{number_bytes, number_width}
use Rattle.acpi_base.specs.Object.{Object, whole, all_of, ended}
use Rattle.acpi_term.specs.Tree.{Entry, named, reserved, access_as, extended_access_as, connection, connection_buffer}
use Rattle.acpi_term.specs.Tree.{Head, number, ones, string, local, arg, call, def_scope, def_device}
use Rattle.acpi_term.specs.Tree.{def_method, def_power_res, def_field, def_op_region, def_name, def_mutex, def_acquire}
use Rattle.acpi_term.specs.Tree.{def_release, def_buffer, def_package, def_var_package, def_if, def_while, def_else, op}
use Rattle.acpi_term.specs.Tree.{def_external, def_leveled_method, def_processor, def_thermal_zone, def_roomy_package}
use Rattle.acpi_term.specs.Tree.{def_index_field, def_bank_field}
use Rattle.acpi_term.specs.Tree.{def_fatal, match_test, def_timeout, unread}
use Rattle.acpi_term.specs.Length.{least_width, length_bytes, with_length}
use Rattle.acpi_term.specs.Operator.{opcode}

-- ---- fields (ACPI 6.5, 20.2.5.2)

-- BufferData of a connection, after its length: BufferSize, a number, and ByteList
abbrev pub connected : ℕ → ℕ → List ℕ → List ℕ
connected size v bytes = number_bytes size v ++ bytes

-- NamedField: the name's four bytes and a length; ReservedField: 00 and a length. The length doesn't count itself. AccessField:
-- 01 and two bytes. ConnectField: 02, and a name or a buffer. ExtendedAccessField: 03 and three bytes.
abbrev pub entry_bytes : Entry → List ℕ
entry_bytes (named name bits w) = name ++ length_bytes w bits
entry_bytes (reserved bits w) = 0x00 ∷ length_bytes w bits
entry_bytes (access_as access attribute) = 0x01 ∷ access ∷ attribute ∷ []
entry_bytes (extended_access_as access attribute size) = 0x03 ∷ access ∷ attribute ∷ size ∷ []
entry_bytes (connection name) = 0x02 ∷ name
entry_bytes (connection_buffer w size v bytes) = 0x02 ∷ 0x11 ∷ with_length w (connected size v bytes)

abbrev pub entries_bytes : List Entry → List ℕ
entries_bytes [] = []
entries_bytes (e ∷ entries) = entry_bytes e ++ entries_bytes entries

-- What an entry's length counts besides itself: bits of a field, or bytes of a buffer. It is 0 for an entry without a length.
abbrev pub entry_length : Entry → ℕ
entry_length (named name bits w) = bits
entry_length (reserved bits w) = bits
entry_length (access_as access attribute) = 0
entry_length (extended_access_as access attribute size) = 0
entry_length (connection name) = 0
entry_length (connection_buffer w size v bytes) = length (connected size v bytes)

-- in how many bytes it is written; for an entry without a length, the least number
abbrev pub entry_width : Entry → ℕ
entry_width (named name bits w) = w
entry_width (reserved bits w) = w
entry_width (access_as access attribute) = 1
entry_width (extended_access_as access attribute size) = 1
entry_width (connection name) = 1
entry_width (connection_buffer w size v bytes) = w

-- `PkgLength` if an entry has 2^28 bits or more
abbrev pub entries_end : List Entry → Option Error
entries_end [] = None
entries_end (e ∷ entries) = if nat_lt (entry_length e) (2 ^ 28) then entries_end entries else Some PkgLength

-- an entry whose length has the width that is written
abbrev pub named_entry : List ℕ → ℕ → Entry
named_entry name bits = named name bits (least_width bits)

abbrev pub reserved_entry : ℕ → Entry
reserved_entry bits = reserved bits (least_width bits)

-- FieldFlags: the access type in bits 0 to 3, the lock rule in bit 4, the update rule in bits 5 and 6
abbrev pub field_flags : ℕ → ℕ → ℕ → ℕ
field_flags access lock update = access + 16 * lock + 32 * update

-- MethodFlags: the number of arguments in bits 0 to 2, whether serialized in bit 3
abbrev pub method_flags : ℕ → Bool → ℕ
method_flags args serialized = args + (if serialized then 8 else 0)

-- the same with a synchronization level in bits 4 to 7
abbrev pub leveled_flags : ℕ → Bool → ℕ → ℕ
leveled_flags args serialized level = method_flags args serialized + 16 * level

-- ---- rows

-- the bytes around those of the children
pub data Layout : Type 0 where
  -- these bytes, and then the children
  bare : List ℕ → Layout
  -- an opcode, and a frame: bytes before the children, the children, and bytes after them
  framed : List ℕ → List ℕ → List ℕ → Layout

-- the parts of a layout
abbrev pub code_of : Layout → Option (List ℕ)
code_of (bare before) = None
code_of (framed code before after) = Some code

abbrev pub before_of : Layout → List ℕ
before_of (bare before) = before
before_of (framed code before after) = before

abbrev pub after_of : Layout → List ℕ
after_of (bare before) = []
after_of (framed code before after) = after

-- The row of a head with n children (ACPI 6.5, 20.2.3 and 20.2.5). It needs the width of a number only; the width of a frame is
-- that of its length.
abbrev pub layout : Head → ℕ → ℕ → Layout
layout (number v) w n = bare (number_bytes v w)
layout ones w n = bare (0xff ∷ [])
layout (string s) w n = bare (0x0d ∷ s ++ 0x00 ∷ [])
layout (local k) w n = bare ((0x60 + k) ∷ [])
layout (arg k) w n = bare ((0x68 + k) ∷ [])
layout (call name) w n = bare name
layout (def_scope name) w n = framed (0x10 ∷ []) name []
layout (def_device name) w n = framed (0x5b ∷ 0x82 ∷ []) name []
layout (def_method name args serialized) w n = framed (0x14 ∷ []) (name ++ method_flags args serialized ∷ []) []
layout (def_power_res name level order) w n = framed (0x5b ∷ 0x84 ∷ []) (name ++ level ∷ le 2 order) []
layout (def_field name access lock update entries) w n = framed (0x5b ∷ 0x81 ∷ []) (name
    ++ field_flags access lock update ∷ entries_bytes entries) []
layout (def_op_region name space) w n = bare (0x5b ∷ 0x80 ∷ name ++ space ∷ [])
layout (def_name name) w n = bare (0x08 ∷ name)
layout (def_mutex name level) w n = bare (0x5b ∷ 0x01 ∷ name ++ level ∷ [])
layout (def_acquire name timeout) w n = bare (0x5b ∷ 0x23 ∷ name ++ le 2 timeout)
layout (def_release name) w n = bare (0x5b ∷ 0x27 ∷ name)
layout (def_buffer bytes) w n = framed (0x11 ∷ []) [] bytes
layout def_package w n = framed (0x12 ∷ []) (n ∷ []) []
layout def_var_package w n = framed (0x13 ∷ []) [] []
layout def_if w n = framed (0xa0 ∷ []) [] []
layout def_while w n = framed (0xa2 ∷ []) [] []
layout def_else w n = framed (0xa1 ∷ []) [] []
layout (op o) w n = bare (opcode o)
layout (def_external name kind args) w n = bare (0x15 ∷ name ++ kind ∷ args ∷ [])
layout (def_leveled_method name args serialized level) w n =
    framed (0x14 ∷ []) (name ++ leveled_flags args serialized level ∷ []) []
layout (def_processor name id address size) w n = framed (0x5b ∷ 0x83 ∷ []) (name ++ (id ∷ (le 4 address ++ size ∷ []))) []
layout (def_thermal_zone name) w n = framed (0x5b ∷ 0x85 ∷ []) name []
layout (def_roomy_package room) w n = framed (0x12 ∷ []) (room ∷ []) []
layout (def_index_field index name access lock update entries) w n = framed (0x5b ∷ 0x86 ∷ []) (index ++ (name
    ++ field_flags access lock update ∷ entries_bytes entries)) []
layout (def_bank_field name bank access lock update entries) w n = framed (0x5b ∷ 0x87 ∷ []) (name ++ bank)
    (field_flags access lock update ∷ entries_bytes entries)
layout (def_fatal kind code) w n = bare (0x5b ∷ 0x32 ∷ kind ∷ le 4 code)
layout (match_test k) w n = bare (k ∷ [])
layout (def_timeout t) w n = bare (le 2 t)
layout (unread error bytes) w n = bare bytes

-- the error of a head's own values, with n children
abbrev pub own : Head → ℕ → Option Error
own (local k) n = if nat_le k 7 then None else Some LocalNumber
own (arg k) n = if nat_le k 6 then None else Some ArgNumber
own (def_method name args serialized) n = if nat_le args 7 then None else Some MethodArgs
own (def_field name access lock update entries) n = entries_end entries
own def_package n = if nat_le n 255 then None else Some PackageElements
own (def_leveled_method name args serialized level) n = if nat_le args 7 then None else Some MethodArgs
own (def_roomy_package room) n = if nat_lt n room then None else Some PackageElements
own (def_index_field index name access lock update entries) n = entries_end entries
own (def_bank_field name bank access lock update entries) n = entries_end entries
own _ n = None

-- ---- rows that are written

-- the width of a head without a frame: the least width of a number
abbrev pub own_width : Head → ℕ
own_width (number v) = number_width v
own_width _ = 0

-- the error of a frame: no length can count itself and a content of this size
abbrev pub frame_end : ℕ → Option Error
frame_end size = if nat_lt (4 + size) (2 ^ 28) then None else Some PkgLength

-- an opcode, and a content in a frame of the least width
abbrev pub frame : List ℕ → List ℕ → Object
frame code content = ended (frame_end (length content)) (whole (code ++ with_length (least_width (length content)) content))

-- a layout around an object
abbrev pub around : Layout → Object → Object
around (bare before) inside = ended inside.end (whole (before ++ inside.front))
around (framed code before after) inside = ended inside.end (frame code (before ++ (inside.front ++ after)))

-- A term of this head over these children, as an object. The error is that of its own values, then that of the first child with
-- an error, and then that of the length.
abbrev pub row : Head → List Object → Object
row h objects = ended (own h (length objects)) (around (layout h (own_width h) (length objects)) (all_of objects))

-- the width in which a layout is written around these bytes
abbrev pub layout_width : Layout → ℕ → List ℕ → ℕ
layout_width (bare before) w inside = w
layout_width (framed code before after) w inside = least_width (length (before ++ (inside ++ after)))

-- the width in which a head with n children is written, if the bytes inside are those of the children
abbrev pub writer_width : Head → ℕ → List ℕ → ℕ
writer_width h n inside = layout_width (layout h (own_width h) n) (own_width h) inside
