-- What each character of a text does.
use Rattle.std.specs.Prelude.{ℕ, ◌+◌, ◌-◌, ◌*◌, ◌<◌, ◌==◌, nat_lt, nat_le, ◌&&◌, ◌||◌, not, Bool, if◌then◌else◌, Option}
use Rattle.std.specs.Prelude.{Some, None}
use Rattle.acpi_base.specs.Digit.{digit_value}
use Rattle.acpi_make.specs.Text.{is_white}
use Rattle.acpi_make.specs.declared.fault.Wanted.{Wanted}
use Rattle.acpi_make.specs.declared.fault.Wanted.TheVariants.{Printing, Space, Digit, SecondDigit, QuotationMark}
use Rattle.acpi_make.specs.declared.fault.Wanted.TheVariants.{QuestionMark, Slash, Brace}
use Rattle.acpi_make.specs.declared.fault.Wanted.TheVariants as wants
use Rattle.acpi_make.specs.declared.item.Cell.TheVariants.{Byte, Left}
use Rattle.acpi_make.specs.declared.item.Item.TheVariants.{Cell, Heading, Name, Value}
use Rattle.acpi_make.specs.declared.state.State.{State}
use Rattle.acpi_make.specs.declared.state.State.TheVariants.{Start, Slashed, Headed, Indented, NameSlashed, Named, Skipped}
use Rattle.acpi_make.specs.declared.state.State.TheVariants.{Ended, Spaced, HalfComment, Number, Half, Quoted, HalfMark}
use Rattle.acpi_make.specs.declared.state.State.TheVariants.{Marked, Braced, Worded}
use Rattle.acpi_make.specs.declared.state.Step.{Step}
use Rattle.acpi_make.specs.declared.state.Step.TheVariants.{Goes, Adds, Ends, Has, Wants}

-- ---- characters

-- whether a character neither prints nor is white space
abbrev pub is_control : ℕ → Bool
is_control c = (nat_lt c 32 && not (is_white c)) || c == 127

-- ---- steps, with the number of characters from this one to the text's end

-- What the end of a line does. That of a text does the same.
abbrev pub line_end : ℕ → State → Step
line_end here Number = Ends Start
line_end here (Half high from) = Wants SecondDigit
line_end here Quoted = Wants QuotationMark
line_end here (HalfMark from) = Wants QuestionMark
line_end here HalfComment = Wants Slash
line_end here (Braced from) = Wants Brace
line_end here (Slashed from) = Has (Heading from here) Start
line_end here (Headed from) = Has (Heading from here) Start
line_end here (NameSlashed from) = Has (Name from here) Start
line_end here (Named from) = Has (Name from here) Start
line_end here (Worded from) = Has (Value from here) Start
line_end here Start = Goes Start
line_end here Indented = Goes Start
line_end here Skipped = Goes Start
line_end here Ended = Goes Start
line_end here Spaced = Goes Start
line_end here Marked = Goes Start

-- the first digit of a byte of a number, with its place if it is the number's first, or otherwise 0
abbrev pub first_digit : Wanted → ℕ → Option ℕ → Step
first_digit wanted from (Some d) = Goes (Half d from)
first_digit wanted from None = Wants wanted

-- its second digit
abbrev pub second_digit : ℕ → Option ℕ → Step
second_digit high (Some d) = Adds (16 * high + d)
second_digit high None = Wants SecondDigit

-- what a character does where a line begins
abbrev pub from_start : ℕ → ℕ → Step
from_start here c =
    if c == 35 then Goes Skipped
    else (if c == 47 then Goes (Slashed here)
    else (if is_white c then Goes Indented
    else Goes (Headed here)))

-- what it does after white space there
abbrev pub from_indent : ℕ → ℕ → Step
from_indent here c =
    if c == 35 then Goes Skipped
    else (if c == 58 then Has (Name here here) Ended
    else (if c == 47 then Goes (NameSlashed here)
    else (if is_white c then Goes Indented
    else Goes (Named here))))

-- what it does after white space that follows a colon or a value: it is more of it, or begins a comment or a value
abbrev pub after_space : ℕ → ℕ → Step
after_space here c =
    if c == 47 then Goes HalfComment
    else (if c == 34 then Goes Quoted
    else (if c == 63 then Goes (HalfMark here)
    else (if c == 123 then Goes (Braced here)
    else (if c == 35 || c == 64 then Goes (Worded here)
    else (if is_white c then Goes Spaced
    else first_digit wants.Value here (digit_value c))))))

-- what it does after the first digit of a byte: `0x` begins a number with a prefix
abbrev pub after_digit : ℕ → ℕ → ℕ → Step
after_digit high from c =
    if (c == 120 || c == 88) && high == 0 && nat_lt 0 from then Goes (Worded from) else second_digit high (digit_value c)

-- what a character does that prints, or is white space
abbrev pub goes_on : ℕ → State → ℕ → Step
goes_on here Start c = from_start here c
goes_on here (Slashed from) c = if c == 47 then Goes Skipped else Goes (Headed from)
goes_on here (Headed from) c = Goes (Headed from)
goes_on here Indented c = from_indent here c
goes_on here (NameSlashed from) c =
    if c == 47 then Goes Skipped else (if c == 58 then Has (Name from here) Ended else Goes (Named from))
goes_on here (Named from) c = if c == 58 then Has (Name from here) Ended else Goes (Named from)
goes_on here Skipped c = Goes Skipped
goes_on here Ended c = if c == 47 then Goes HalfComment else (if is_white c then Goes Spaced else Wants Space)
goes_on here Spaced c = after_space here c
goes_on here HalfComment c = if c == 47 then Goes Skipped else Wants Slash
goes_on here Number c =
    if c == 47 then Ends HalfComment else (if is_white c then Ends Spaced else first_digit Digit 0 (digit_value c))
goes_on here (Half high from) c = after_digit high from c
goes_on here Quoted c =
    if c == 34 then Goes Ended
    else (if nat_le 32 c && nat_le c 126 then Has (Cell (Byte c)) Quoted else Wants QuotationMark)
goes_on here (HalfMark from) c = if c == 63 then Has (Cell (Left from)) Marked else Wants QuestionMark
goes_on here Marked c =
    if c == 47 then Goes HalfComment
    else (if c == 63 then Goes (HalfMark here) else (if is_white c then Goes Spaced else Wants Space))
goes_on here (Braced from) c = if c == 125 then Has (Value from (here - 1)) Ended else Goes (Braced from)
goes_on here (Worded from) c =
    if c == 47 then Has (Value from here) HalfComment
    else (if is_white c then Has (Value from here) Spaced else Goes (Worded from))

-- what any character does
abbrev pub step : ℕ → State → ℕ → Step
step here state c =
    if c == 10 then line_end here state
    else (if is_control c then Wants Printing
    else goes_on here state c)

-- ---- the digits that are kept

abbrev pub IsHalf : State → Type 0
IsHalf (Half high from) = high < 16
IsHalf state = Unit {0}

abbrev pub GoesToHalf : Step → Type 0
GoesToHalf (Goes state) = IsHalf state
GoesToHalf (Ends state) = IsHalf state
GoesToHalf (Has item state) = IsHalf state
GoesToHalf step = Unit {0}
