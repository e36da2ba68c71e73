-- The tables of a dump.
use Rattle.std.specs.Prelude.{ℕ, ◌+◌, ◌==◌, Bool, false, if◌then◌else◌, List, [], ◌∷◌, ◌++◌, length, reverse, map, Result, Ok}
use Rattle.std.specs.Prelude.{Err, MatchResult, ◌≡◌, ◌≢◌, Vec}
use Rattle.std.specs.declared.alloc.Global.{Global}
use Rattle.std.specs.Str.Lines.{strip_carriage_return}
use Rattle.std.specs.Str.Parse.{digits_value}
use Rattle.acpi_dump.specs.Lines.{lines}
use Rattle.acpi_dump.specs.Line.{is_blank, is_title, is_data, digits_of, rest_of, bytes_in}
use Rattle.acpi_dump.specs.declared.dump.Dumped.{Dumped}
use Rattle.acpi_dump.specs.declared.fault.DumpFault.{DumpFault}
use Rattle.acpi_dump.specs.declared.fault.DumpFault.TheVariants.{Memory, Unknown, Untitled, Offset}

-- A line of a dump. A title is the whole line.
pub data Line : Type 0 where
  blank : Line
  title : List ℕ → Line
  bytes : ℕ → List ℕ → Line
  other : Line

-- what a line is; its bytes begin at an offset
abbrev pub line_of : List ℕ → Line
line_of line =
    if is_blank line then blank
    else (if is_title line then title line
    else (if is_data line then bytes (digits_value 16 (digits_of line)) (bytes_in 16 (rest_of line))
    else other))

-- The tables after a line of this number, or what is wrong with it. Each table is its title and its bytes. Before the line there
-- are these tables, the latest first.
abbrev pub step : ℕ → List (List ℕ × List ℕ) → Line → Result (List (List ℕ × List ℕ)) DumpFault
step number tables blank = Ok tables
step number tables (title line) = Ok ((line, []) ∷ tables)
step number [] (bytes offset more) = Err (Untitled number)
step number (table ∷ tables) (bytes offset more) =
    if offset == length table.1 then Ok ((table.0, table.1 ++ more) ∷ tables) else Err (Offset number (length table.1))
step number tables other = Err (Unknown number)

-- what comes after a step, unless it has a fault
abbrev pub unless_fault : Result (List (List ℕ × List ℕ)) DumpFault
    → (List (List ℕ × List ℕ) → Result (List (List ℕ × List ℕ)) DumpFault) → Result (List (List ℕ × List ℕ)) DumpFault
unless_fault (Ok tables) go_on = go_on tables
unless_fault (Err fault) go_on = Err fault

-- the tables of lines from this number on, or the first fault; before them there are these tables, the latest first
abbrev pub read : ℕ → List (List ℕ × List ℕ) → List (List ℕ) → Result (List (List ℕ × List ℕ)) DumpFault
read number tables [] = Ok (reverse tables)
read number tables (line ∷ lines) =
    unless_fault (step number tables (line_of (strip_carriage_return line))) (λ next. read (number + 1) next lines)

-- the tables of a text, each with its title, or the first fault
abbrev pub tables_of : List ℕ → Result (List (List ℕ × List ℕ)) DumpFault
tables_of text = read 1 [] (lines text)

-- ---- the first title

-- the first line that isn't blank is a title
abbrev pub begins_with_title : List (List ℕ) → Bool
begins_with_title [] = false
begins_with_title (line ∷ lines) =
    let content = strip_carriage_return line in
    if is_blank content then begins_with_title lines else is_title content

abbrev pub is_dump : List ℕ → Bool
is_dump text = begins_with_title (lines text)

-- ---- the code's lists

abbrev pub titled : Dumped → List ℕ × List ℕ
titled table = (table.title.items, table.bytes.items)

abbrev pub latest_first : Vec Dumped Global → List (List ℕ × List ℕ)
latest_first tables = reverse (map titled tables.items)

-- a call did this step, or returns its fault; the only other error is of memory
abbrev pub IsStep : Result (List (List ℕ × List ℕ)) DumpFault → List (List ℕ × List ℕ) → Result (Unit {0}) DumpFault → Type 0
IsStep wanted tables result = MatchResult result (λ _. wanted ≡ Ok tables) (λ fault. fault ≢ Memory → wanted ≡ Err fault)
