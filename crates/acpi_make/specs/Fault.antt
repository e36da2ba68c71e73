-- What is wrong with a text, and how it is said.
use Rattle.std.specs.Prelude.{ℕ, ◌+◌, ◌-◌, ◌==◌, Bool, false, if◌then◌else◌, List, [], ◌∷◌, ◌++◌, length, take, codes}
use Rattle.std.specs.Fmt.{decimal}
use Rattle.acpi_text.specs.Label.{all_print}
use Rattle.acpi_make.specs.Text.{part_at, is_white}
use Rattle.acpi_make.specs.declared.fault.Fault as declared
use Rattle.acpi_make.specs.declared.fault.MakeError.{MakeError}
use Rattle.acpi_make.specs.declared.fault.MakeError.TheVariants as errors
use Rattle.acpi_make.specs.declared.fault.Wanted.{Wanted}
use Rattle.acpi_make.specs.declared.fault.Wanted.TheVariants as wanted

-- The range of what is wrong, what has to stand there, and of a field its name and its width, and how many bytes the text has
-- for it.
pub record Fault : Type 0 where
  pub from : ℕ
  pub to : ℕ
  pub wanted : Wanted
  pub name : List ℕ
  pub width : ℕ
  pub found : ℕ

abbrev pub fault_of : declared.Fault → Fault
fault_of wrong = record {
  from = wrong.from;
  to = wrong.to;
  wanted = wrong.wanted;
  name = wrong.name.now;
  width = wrong.width;
  found = wrong.found;
}

-- a fault that concerns no field
abbrev pub fault : ℕ → ℕ → Wanted → Fault
fault from to wanted = record { from = from; to = to; wanted = wanted; name = []; width = 0; found = 0 }

-- a fault in place of which a field or a structure has to stand
abbrev pub next : ℕ → ℕ → List ℕ → ℕ → Fault
next from to name width = record { from = from; to = to; wanted = wanted.Next; name = name; width = width; found = 0 }

-- a field that has another number of bytes in the text
abbrev pub wide : ℕ → ℕ → List ℕ → ℕ → ℕ → Fault
wide from to name width found =
    record { from = from; to = to; wanted = wanted.Width; name = name; width = width; found = found }

-- a field whose digits stand in other groups in the text, where its numbers have this many digits
abbrev pub grouped : ℕ → ℕ → List ℕ → ℕ → Fault
grouped from to name digits =
    record { from = from; to = to; wanted = wanted.Groups; name = name; width = digits; found = 0 }

-- a field that a table or a structure lacks, whose length is left out
abbrev pub whole : ℕ → ℕ → List ℕ → ℕ → Fault
whole from to name width = record { from = from; to = to; wanted = wanted.Whole; name = name; width = width; found = 0 }

-- a field in which another number has to stand
abbrev pub another : ℕ → ℕ → List ℕ → ℕ → Fault
another from to name n = record { from = from; to = to; wanted = wanted.AnotherNumber; name = name; width = n; found = 0 }

-- a line in place of which a field of a form has to stand
abbrev pub field_of : ℕ → ℕ → List ℕ → Fault
field_of from to name = record { from = from; to = to; wanted = wanted.FieldOf; name = name; width = 0; found = 0 }

-- ---- where it is

-- what stands before a place
abbrev pub before : ℕ → List ℕ → List ℕ
before place text = take (length text - place) text

-- the line after a text, from the line in which it begins
abbrev pub line_after : ℕ → List ℕ → ℕ
line_after line [] = line
line_after line (c ∷ text) = line_after (if c == 10 then line + 1 else line) text

-- the column after a text, from the column in which it begins
abbrev pub column_after : ℕ → List ℕ → ℕ
column_after column [] = column
column_after column (c ∷ text) = column_after (if c == 10 then 1 else column + 1) text

abbrev pub line_at : ℕ → List ℕ → ℕ
line_at place text = line_after 1 (before place text)

abbrev pub column_at : ℕ → List ℕ → ℕ
column_at place text = column_after 1 (before place text)

-- ---- what has to stand there

abbrev pub words : Wanted → List ℕ
words wanted.Printing = codes "text"
words wanted.Space = codes "a space"
words wanted.Value = codes "a value"
words wanted.Digit = codes "a hexadecimal digit"
words wanted.SecondDigit = codes "the second digit of a byte (#5 and 0x5 are the number 5)"
words wanted.QuotationMark = codes "a quotation mark, or a character of ASCII that prints"
words wanted.QuestionMark = codes "a second question mark"
words wanted.Slash = codes "a second slash"
words wanted.Brace = codes "a brace at the end of the names"
words wanted.Field = codes "bytes, since the line has no field"
words wanted.Name = codes "a name that this field has; a bar between spaces joins flags of different bits"
words wanted.Number = codes "a number that fits the field"
words wanted.Label = codes "the label of one structure"
words wanted.Bytes = codes "bytes, since nothing determines the question marks"
words wanted.Next = codes "another field or structure"
words wanted.Nameless = codes "Bytes, since no field of the form stands here"
words wanted.End = codes "the end of the table"
words wanted.Structure = codes "the name or the type of a structure of this table"
words wanted.Width = codes "as many bytes as the field has"
words wanted.Groups = codes "as many digits in a group as a number of the field has"
words wanted.FieldOf = codes "a field"
words wanted.AnotherNumber = codes "another number"
words wanted.Whole = codes "all fields, since the length is left out"
words wanted.OneTable = codes "the end of the text, since a text is one table"
words wanted.Table = codes "a table, whose fields stand in lines after white space"
words wanted.Indented = codes "white space before a field"

abbrev pub next_text : List ℕ → ℕ → List ℕ
next_text name width =
    if length name == 0 then codes "another field or structure"
    else (if width == 0 then name
    else (if width == 1 then name ++ codes " (1 byte)"
    else name ++ (codes " (" ++ (decimal width ++ codes " bytes)"))))

abbrev pub width_text : List ℕ → ℕ → List ℕ
width_text name width =
    if width == 1 then codes "1 byte of " ++ name else decimal width ++ (codes " bytes of " ++ name)

abbrev pub groups_text : List ℕ → ℕ → List ℕ
groups_text name digits = codes "groups of " ++ (decimal digits ++ (codes " digits in " ++ name))

abbrev pub whole_text : List ℕ → ℕ → List ℕ
whole_text name width =
    if width == 1 then name ++ codes " (1 byte), since the length is left out"
    else name ++ (codes " (" ++ (decimal width ++ codes " bytes), since the length is left out"))

abbrev pub text_of_wanted : Wanted → List ℕ → ℕ → List ℕ
text_of_wanted wanted.Next name width = next_text name width
text_of_wanted wanted.Width name width = width_text name width
text_of_wanted wanted.Groups name width = groups_text name width
text_of_wanted wanted.AnotherNumber name width = decimal width ++ (codes " in " ++ name)
text_of_wanted wanted.FieldOf name width = codes "a field of " ++ name
text_of_wanted wanted.Whole name width = whole_text name width
text_of_wanted wanted name width = words wanted

abbrev pub wanted_text : Fault → List ℕ
wanted_text wrong = text_of_wanted wrong.wanted wrong.name wrong.width

-- ---- what stands there

-- the end of what is no white space, where a part begins at k, and what stands before it ends at `end`
abbrev pub end_after : ℕ → ℕ → List ℕ → ℕ
end_after k end [] = end
end_after k end (c ∷ part) = end_after (k + 1) (if is_white c then end else k + 1) part

-- a part without the white space at its end
abbrev pub without_end : List ℕ → List ℕ
without_end part = take (end_after 0 0 part) part

abbrev pub quoted : List ℕ → List ℕ
quoted part = codes "\"" ++ (part ++ codes "\"")

abbrev pub begins_line : List ℕ → Bool
begins_line [] = false
begins_line (c ∷ part) = c == 10

abbrev pub part_text : ℕ → List ℕ → List ℕ
part_text from part =
    if from == 0 then codes "the end of the text"
    else (if length part == 0 then codes "white space"
    else (if begins_line part then codes "the end of the line"
    else (if all_print part then quoted part
    else codes "characters that don't print")))

abbrev pub text_of_found : Wanted → ℕ → ℕ → List ℕ → List ℕ
text_of_found wanted.Width from found part = decimal found
text_of_found wanted.Groups from found part = codes "other groups"
text_of_found wanted.AnotherNumber from found part = codes "another number"
text_of_found wanted from found part = part_text from part

abbrev pub found_text : Fault → List ℕ → List ℕ
found_text wrong text = text_of_found wrong.wanted wrong.from wrong.found (without_end (part_at wrong.from wrong.to text))

-- ---- all of it

abbrev pub explained : Fault → List ℕ → List ℕ
explained wrong text =
    codes "line " ++ (decimal (line_at wrong.from text)
    ++ (codes ", column " ++ (decimal (column_at wrong.from text)
    ++ (codes ": expected " ++ (wanted_text wrong
    ++ (codes ", found " ++ found_text wrong text))))))

-- what an error says of itself, without its text
abbrev pub error_text : MakeError → List ℕ
error_text errors.Memory = codes "out of memory"
error_text (errors.Fault wrong) = codes "expected " ++ words wrong.wanted
