-- The table that a text is made into.
use Rattle.std.specs.Prelude.{List, ◌∷◌, ◌++◌, length, Option, Some, None, Result, Ok, Err, ℕ}
use Rattle.acpi_base.specs.declared.walk.Place.{Place}
use Rattle.acpi_base.specs.declared.walk.Place.TheVariants.{Nowhere}
use Rattle.acpi_base.specs.declared.walk.Walk.{Walk}
use Rattle.acpi_make.specs.Blamed.{blamed}
use Rattle.acpi_make.specs.Complete.{length_own, completed}
use Rattle.acpi_make.specs.Compare.{difference}
use Rattle.acpi_make.specs.Draft.{Drafted, nothing_yet, doubt_of, or_fault, all_taken}
use Rattle.acpi_make.specs.Fault.{Fault}
use Rattle.acpi_make.specs.Gives.{and_then}
use Rattle.acpi_make.specs.Notes.{notes}
use Rattle.acpi_make.specs.Own.{walk_own, none_own, table_own, references_own}
use Rattle.acpi_make.specs.declared.file_kind.FileKind.{FileKind}
use Rattle.acpi_make.specs.Short.{short}
use Rattle.acpi_make.specs.Source.{Source}
use Rattle.acpi_make.specs.declared.item.Item.{Item}
use Rattle.acpi_make.specs.declared.make.Made.{Made}
use Rattle.acpi_make.specs.declared.extent.Own.{Own}

-- the bytes of a table, and the numbers of itself that aren't in them
pub record Table : Type 0 where
  pub bytes : List ℕ
  pub untrue : List Own

-- where a structure's type is
abbrev pub type_place : Option Walk → Place
type_place (Some walk) = walk.kind
type_place None = Nowhere

-- a table's length, and what its walk says of its structures
abbrev pub sizes_own : FileKind → Option Walk → Drafted → List Own
sizes_own file_kind walk d = length_own file_kind (length d.cells) ∷ walk_own walk d.marks (length d.cells)

-- a table of these bytes, with notes on its own numbers
abbrev pub made_of : FileKind → List Own → List ℕ → Table
made_of file_kind owns bytes = record { bytes = bytes; untrue = notes file_kind owns bytes }

-- the offsets to which references refer, and then all numbers that a table has of itself
abbrev pub numbers_own : FileKind → Option Walk → Source → Drafted → Result (List Own) Fault
numbers_own file_kind walk s d =
    and_then (references_own s.text d.marks d.marks) (λ references.
    Ok (references ++ (sizes_own file_kind walk d ++ table_own s d.cells d.marks)))

-- an outcome, unless something is wrong
abbrev pub unless : {A : Type 0} → Option Fault → Result A Fault → Result A Fault
unless (Some wrong) outcome = Err wrong
unless None outcome = outcome

-- The table of a table in the making: no structure whose length is left out lacks fields, and the text has the lines of the
-- text that shows the table. Else a number that the text states may be the cause.
abbrev pub finished : FileKind → Option Walk → Source → Drafted → Result Table Fault
finished file_kind walk s d =
    and_then (numbers_own file_kind walk s d) (λ owns.
    unless (short file_kind walk s d) (
    and_then (completed file_kind (owns ++ none_own walk d.marks (length d.cells)) d.cells) (λ bytes.
    and_then (difference walk s d bytes) (λ wrong.
    unless (blamed file_kind walk s d owns bytes wrong) (Ok (made_of file_kind owns bytes))))))

-- an outcome, in which what was in doubt before comes before other faults
abbrev pub or_doubt : {A : Type 0} → Option Fault → Result A Fault → Result A Fault
or_doubt doubt (Ok value) = Ok value
or_doubt doubt (Err wrong) = Err (or_fault doubt wrong)

-- the table that the parts of a text are made into
abbrev pub made : FileKind → Option Walk → Source → List Item → Result Table Fault
made file_kind walk s parts =
    and_then (all_taken s parts nothing_yet) (λ d. or_doubt (doubt_of d) (finished file_kind walk s d))

abbrev pub table_of : Made → Table
table_of made = record { bytes = made.bytes.items; untrue = made.untrue.items }
