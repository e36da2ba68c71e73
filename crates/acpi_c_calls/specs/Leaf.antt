-- The pieces of objects that are made of texts and numbers.
use Rattle.std.specs.Prelude.{ℕ, ◌/◌, ◌%◌, ◌==◌, nat_lt, ◌&&◌, Bool, true, if◌then◌else◌}
use Rattle.std.specs.Prelude.{List, [], ◌∷◌, Option, Some, None, Result, Ok, Err}
use Rattle.std.specs.Str.{is_utf8}
use Rattle.acpi_base.specs.Number.{number}
use Rattle.acpi_base.specs.Text.{text}
use Rattle.acpi_aml.specs.Eisa.{eisa_value}
use Rattle.acpi_aml.specs.Uuid.{uuid_bytes}
use Rattle.acpi_term.specs.Operator.{opcode, op_of}
use Rattle.acpi_term.specs.Template.{buffer_of_bytes}
use Rattle.acpi_term.specs.declared.op.Op.{Op}
use Rattle.acpi_c_calls.specs.Writer.{piece_of}
use Rattle.acpi_c_calls.specs.declared.fault.Fault.{Fault}
use Rattle.acpi_c_calls.specs.declared.fault.Fault.TheVariants as fault

-- each byte is one of ASCII
abbrev pub is_ascii : List ℕ → Bool
is_ascii [] = true
is_ascii (b ∷ bytes) = nat_lt b 0x80 && is_ascii bytes

-- a string of ASCII (ACPI 6.5, 20.2.3)
abbrev pub string_piece : List ℕ → Result (List ℕ) Fault
string_piece bytes = if is_ascii bytes then Ok (text bytes) else Err fault.Text

abbrev pub number_piece : Option ℕ → Result (List ℕ) Fault
number_piece (Some value) = Ok (number value)
number_piece None = Err fault.EisaText

-- the number of an EISA id (19.3.4)
abbrev pub eisa_piece : List ℕ → Result (List ℕ) Fault
eisa_piece bytes = if is_utf8 bytes then number_piece (eisa_value bytes) else Err fault.EisaText

abbrev pub buffer_piece : Option (List ℕ) → Result (List ℕ) Fault
buffer_piece (Some bytes) = piece_of (buffer_of_bytes bytes)
buffer_piece None = Err fault.UuidText

-- the buffer of a UUID (19.6.142)
abbrev pub uuid_piece : List ℕ → Result (List ℕ) Fault
uuid_piece bytes = if is_utf8 bytes then buffer_piece (uuid_bytes bytes) else Err fault.UuidText

-- the operator of an opcode, of which the second byte is the lower one of two
abbrev pub operator_of : ℕ → Option Op
operator_of n =
    if nat_lt n 256 then op_of (n ∷ [])
    else (if n / 256 == 0x5b then op_of (0x5b ∷ n % 256 ∷ []) else None)

abbrev pub code_piece : Option Op → Result (List ℕ) Fault
code_piece (Some operator) = Ok (opcode operator)
code_piece None = Err fault.UnknownChoice

-- an operator, if there is one with this number
abbrev pub operator_piece : ℕ → Result (List ℕ) Fault
operator_piece n = code_piece (operator_of n)
