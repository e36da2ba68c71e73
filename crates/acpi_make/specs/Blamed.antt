-- Which number of a text is the cause, where its lines aren't those of the text that shows the table.
use Rattle.std.specs.Prelude.{ℕ, ◌==◌, ◌&&◌, not, Bool, true, false, if◌then◌else◌, List, [], ◌∷◌}
use Rattle.std.specs.Prelude.{Option, Some, None, Result, Ok, Err}
use Rattle.acpi_base.specs.declared.walk.Walk.{Walk}
use Rattle.acpi_make.specs.Compare.{difference}
use Rattle.acpi_make.specs.Complete.{length_own}
use Rattle.acpi_make.specs.Draft.{Drafted, or_fault}
use Rattle.acpi_make.specs.Fault.{Fault}
use Rattle.acpi_make.specs.Notes.{is_untrue}
use Rattle.acpi_make.specs.Right.{with_numbers}
use Rattle.acpi_make.specs.Another.{another_at}
use Rattle.acpi_make.specs.Source.{Source}
use Rattle.acpi_make.specs.declared.draft.Mark.{Mark}
use Rattle.acpi_make.specs.declared.extent.Own.{Own}
use Rattle.acpi_make.specs.declared.file_kind.FileKind.{FileKind}

-- The first number that isn't in its field, other than the length of all bytes at this offset. No line is shown by this length.
abbrev pub first_untrue : ℕ → List Own → List ℕ → Option Own
first_untrue length_at [] bytes = None
first_untrue length_at (one ∷ owns) bytes =
    if not (one.offset == length_at) && is_untrue one bytes then Some one else first_untrue length_at owns bytes

-- the fault of the line of a number
abbrev pub another_own : Source → List Mark → Option Own → Option Fault
another_own s marks (Some one) = another_at s marks one.offset one.number
another_own s marks None = None

-- ---- the cause

-- whether a text has the lines of the text that shows a table
abbrev pub has_lines : Result (Option Fault) Fault → Bool
has_lines (Ok None) = true
has_lines (Ok (Some wrong)) = false
has_lines (Err wrong) = false

-- a number that isn't right, if the text has the lines of the table with the right numbers, or else a line
abbrev pub cause : Bool → Option Fault → Fault → Fault
cause true number wrong = or_fault number wrong
cause false number wrong = wrong

-- What is wrong with a text whose lines are others than those of the table of these bytes.
abbrev pub blamed : FileKind → Option Walk → Source → Drafted → List Own → List ℕ → Option Fault → Option Fault
blamed file_kind walk s d owns bytes (Some wrong) =
    Some (cause (has_lines (difference walk s d (with_numbers owns bytes)))
    (another_own s d.marks (first_untrue (length_own file_kind 0).offset owns bytes)) wrong)
blamed file_kind walk s d owns bytes None = None
