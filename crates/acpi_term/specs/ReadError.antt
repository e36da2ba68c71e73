-- The names and texts of errors of reading.
use Rattle.std.specs.Prelude.{ℕ, List, ◌++◌, codes, Option, Some, None}
use Rattle.std.specs.Fmt.{decimal}
use Rattle.acpi_term.specs.declared.read_error.ReadError.{ReadError}
use Rattle.acpi_term.specs.declared.read_error.ReadError.TheVariants as kinds

-- the error's name, as text
abbrev pub name_of : ReadError → List ℕ
name_of kinds.Memory = codes "Memory"
name_of (kinds.Truncated offset) = codes "Truncated"
name_of (kinds.Opcode offset) = codes "Opcode"
name_of kinds.NameText = codes "NameText"
name_of (kinds.Length offset) = codes "Length"
name_of (kinds.Number offset) = codes "Number"
name_of (kinds.Count offset) = codes "Count"
name_of (kinds.Flags offset) = codes "Flags"
name_of (kinds.Text offset) = codes "Text"
name_of (kinds.TooDeep offset) = codes "TooDeep"
name_of kinds.Arity = codes "Arity"
name_of (kinds.ShortHeader offset) = codes "ShortHeader"
name_of (kinds.TableLength offset) = codes "TableLength"
name_of (kinds.Sum offset) = codes "Sum"
name_of (kinds.Structure offset) = codes "Structure"
name_of (kinds.UnknownSource offset) = codes "UnknownSource"

-- the offset of the error, if it has one
abbrev pub offset_of : ReadError → Option ℕ
offset_of kinds.Memory = None
offset_of (kinds.Truncated offset) = Some offset
offset_of (kinds.Opcode offset) = Some offset
offset_of kinds.NameText = None
offset_of (kinds.Length offset) = Some offset
offset_of (kinds.Number offset) = Some offset
offset_of (kinds.Count offset) = Some offset
offset_of (kinds.Flags offset) = Some offset
offset_of (kinds.Text offset) = Some offset
offset_of (kinds.TooDeep offset) = Some offset
offset_of kinds.Arity = None
offset_of (kinds.ShortHeader offset) = Some offset
offset_of (kinds.TableLength offset) = Some offset
offset_of (kinds.Sum offset) = Some offset
offset_of (kinds.Structure offset) = Some offset
offset_of (kinds.UnknownSource offset) = Some offset

-- the error as text, without the offset
abbrev pub message_of : ReadError → List ℕ
message_of kinds.Memory = codes "out of memory"
message_of (kinds.Truncated offset) = codes "the bytes end within a term"
message_of (kinds.Opcode offset) = codes "no term begins so"
message_of kinds.NameText = codes "a name is 1 to 255 standard segments, after a backslash or none"
message_of (kinds.Length offset) = codes "a PkgLength doesn't fit what surrounds it"
message_of (kinds.Number offset) = codes "a number isn't in its shortest form"
message_of (kinds.Count offset) = codes "a count isn't the number of what it counts"
message_of (kinds.Flags offset) = codes "flags have no meaning"
message_of (kinds.Text offset) = codes "a string has a byte past 7F"
message_of (kinds.TooDeep offset) = codes "terms nest too deep"
message_of kinds.Arity = codes "a name is given arguments twice, or more than 7"
message_of (kinds.ShortHeader offset) = codes "a table has at least the 36 bytes of the standard header"
message_of (kinds.TableLength offset) = codes "the length of a table isn't the number of its bytes"
message_of (kinds.Sum offset) = codes "the bytes of a table don't sum to zero"
message_of (kinds.Structure offset) = codes "a structure isn't as long as it says"
message_of (kinds.UnknownSource offset) = codes "the size of an error source isn't known"

-- the error as text, with the offset if it has one
abbrev pub placed : Option ℕ → List ℕ → List ℕ
placed (Some offset) message = codes "at offset " ++ decimal offset ++ codes ": " ++ message
placed None message = message

abbrev pub text_of : ReadError → List ℕ
text_of error = placed (offset_of error) (message_of error)
