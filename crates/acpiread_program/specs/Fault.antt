-- Faults: why there is no report.
use Rattle.std.specs.Prelude.{◌≡◌, ℕ, ◌+◌, Option, Some, None, List, ◌++◌, codes}
use Rattle.std.specs.Fmt.{decimal}
use Rattle.std.specs.Option.{option_map}
use Rattle.acpi_term.specs.declared.read_error.ReadError.{ReadError}
use Rattle.acpi_term.specs.declared.read_error.ReadError.TheVariants.{Memory}
use Rattle.acpi_term.specs.ReadError.{name_of, offset_of}
use Rattle.acpi_input.specs.declared.stated.Unstated.{Unstated}
use Rattle.acpi_input.specs.declared.stated.Unstated.TheVariants as unstated
use Rattle.acpiread_program.specs.declared.fault.Fault.{Fault}
use Rattle.acpiread_program.specs.declared.fault.Fault.TheVariants.{Usage, RefusedAt, Refused}

-- the program's exit status
abbrev pub status_of : Fault → ℕ
status_of Usage = 2
status_of (RefusedAt offset kind) = 1
status_of (Refused kind) = 1

-- the line for standard error, without its end
abbrev pub line_of : Fault → List ℕ
line_of Usage = codes "usage: acpiread table FILE | aml FILE [NAME=N ..] | dsdt FILE [NAME=N ..]"
line_of (RefusedAt offset kind) = codes "refused at " ++ decimal offset ++ codes ": " ++ kind.now
line_of (Refused kind) = codes "refused: " ++ kind.now

-- the line for standard error where output can't be written, without its end
abbrev pub unwritten : List ℕ
unwritten = codes "the output can't be written"

-- a fault of this name, with this offset if there is one
abbrev pub IsNamed : Option ℕ → List ℕ → Fault → Type 0
IsNamed place name Usage = ⊥
IsNamed place name (RefusedAt offset kind) = (place ≡ Some offset) × (kind.now ≡ name)
IsNamed place name (Refused kind) = (place ≡ None) × (kind.now ≡ name)

-- the fault has the error's name, and its offset if it has one
abbrev pub IsRefusal : ReadError → Fault → Type 0
IsRefusal error = IsNamed (offset_of error) (name_of error)

-- the same for bytes that begin at an offset of the file
abbrev pub IsRefusalAfter : ℕ → ReadError → Fault → Type 0
IsRefusalAfter start error = IsNamed (option_map (λ n. start + n) (offset_of error)) (name_of error)

-- the fault of words that state no numbers of arguments
abbrev pub IsOfWords : Unstated → Fault → Type 0
IsOfWords unstated.Word fault = fault ≡ Usage
IsOfWords unstated.Memory fault = IsRefusal Memory fault

-- the fault is `Usage`, and then the fact holds; or it is that of memory
abbrev pub IsUsageWhere : Type 0 → Fault → Type 0
IsUsageWhere fact Usage = fact
IsUsageWhere fact (RefusedAt offset kind) = ⊥
IsUsageWhere fact (Refused kind) = IsRefusal Memory (Refused kind)
