-- What laws say.
use Rattle.std.specs.Prelude.{◌≡◌, ℕ, ◌^◌, ◌<◌, ◌≤◌, List, [], length, Option, Some, Result, Ok}
use Rattle.acpi_base.specs.Bytes.{AreBytes}
use Rattle.acpi_base.specs.Table.{IsTrueTable}
use Rattle.acpi_base.specs.Walk.{Walks, Tells, IsSound}
use Rattle.acpi_base.specs.declared.walk.Place.{Place}
use Rattle.acpi_base.specs.declared.walk.Walk.{Walk}
use Rattle.acpi_text.specs.Table.{table_text}
use Rattle.acpi_text.specs.declared.form.TableForm.{TableForm}
use Rattle.acpi_make.specs.Draft.{Drafted, nothing_yet, all_taken}
use Rattle.acpi_make.specs.Gives.{and_then}
use Rattle.acpi_make.specs.Item.{known_cells, cells_of}
use Rattle.acpi_make.specs.Made.{Table, made, finished}
use Rattle.acpi_make.specs.Meaning.{parts_of}
use Rattle.acpi_make.specs.Own.{next_start, count_structures}
use Rattle.acpi_make.specs.Pieces.{pieces_of, HaveBytesOf}
use Rattle.acpi_make.specs.declared.file_kind.FileKind.{FileKind}
use Rattle.acpi_make.specs.declared.file_kind.FileKind.TheVariants as kinds
use Rattle.acpi_make.specs.Fault.{Fault}
use Rattle.acpi_make.specs.Source.{Source}
use Rattle.acpi_make.specs.declared.item.Item.{Item}

-- the table that a text is made into
abbrev pub made_text : FileKind → Option Walk → Source → Result Table Fault
made_text file_kind walk s = and_then (parts_of s.text) (λ parts. made file_kind walk s parts)

-- The text has these bytes, each of them known.
pub record HasBytes (text bytes : List ℕ) : Type 0 where
  pub parts : List Item
  pub read : parts_of text ≡ Ok parts
  pub cells : cells_of parts ≡ known_cells bytes

-- For any form, the text of a table has the table's bytes.
abbrev pub TablesAreRead : Type 0
TablesAreRead = (form : TableForm) (walk : Option Walk) (bytes : List ℕ) → AreBytes bytes → length bytes < 2 ^ 64
    → HasBytes (table_text form walk bytes) bytes

-- The text is made into a table of these bytes.
pub record IsMadeInto (file_kind : FileKind) (walk : Option Walk) (s : Source) (bytes : List ℕ) : Type 0 where
  pub table : Table
  pub is : made_text file_kind walk s ≡ Ok table
  pub same : table.bytes ≡ bytes

-- The text of a table is made into the table, for every form.
abbrev pub TablesAreMade : Type 0
TablesAreMade = (form : TableForm) (walk : Option Walk) (kind : Place) (file_kind : FileKind) (bytes : List ℕ)
    → AreBytes bytes → length bytes < 2 ^ 64
    → IsMadeInto file_kind walk (record { form = form; kind = kind; text = table_text form walk bytes }) bytes

-- A table of 36 bytes or more that is made without a note is correct: its length is right, and it sums to zero.
abbrev pub TablesAreTrue : Type 0
TablesAreTrue = (walk : Option Walk) (s : Source) (parts : List Item) (table : Table)
    → made kinds.Table walk s parts ≡ Ok table → table.untrue ≡ [] → 36 ≤ length table.bytes → IsTrueTable table.bytes

-- A table that is made without a note is walked by the structures that the text lists, if the first of them begins where those
-- of the table do, and the text has the bytes of each. A table without structures has to say so, and to have the offset of the
-- first.
abbrev pub TablesAreWalked : Type 0
TablesAreWalked = (walk : Walk) (s : Source) (parts : List Item) (d : Drafted) (table : Table)
    → IsSound walk
    → all_taken s parts nothing_yet ≡ Ok d
    → finished kinds.Table (Some walk) s d ≡ Ok table
    → table.untrue ≡ []
    → length table.bytes < 2 ^ 62
    → next_start d.marks (length table.bytes) ≡ walk.start
    → (count_structures d.marks ≡ 0 → Tells walk.count table.bytes 0 × Tells walk.first table.bytes walk.start)
    → HaveBytesOf walk.sizes (pieces_of d.marks table.bytes)
    → Walks walk table.bytes (pieces_of d.marks table.bytes)
