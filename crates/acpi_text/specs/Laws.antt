-- What laws say.
use Rattle.std.specs.Prelude.{◌≡◌, ℕ, ◌+◌, ◌*◌, ◌^◌, ◌<◌, List, [], length, Option}
use Rattle.acpi_base.specs.Bytes.{AreBytes}
use Rattle.acpi_text.specs.Comment.{comment}
use Rattle.acpi_text.specs.Line.{line, title}
use Rattle.acpi_base.specs.Look.{Look}
use Rattle.acpi_text.specs.Slot.{Slot, slots_text}
use Rattle.acpi_text.specs.Reading.{Has, bytes_of}
use Rattle.acpi_text.specs.Table.{table_text}
use Rattle.acpi_text.specs.declared.form.TableForm.{TableForm}
use Rattle.acpi_base.specs.declared.walk.Walk.{Walk}

-- a field's line has the bytes of the field
abbrev pub LinesHaveFields : Type 0
LinesHaveFields = (depth offset : ℕ) (name : List ℕ) (look : Look) (w n : ℕ) (field : List ℕ)
    → offset < 2 ^ 64 → AreBytes field → length field ≡ w * n → Has (line depth offset name look w n field) field

-- a title has none
abbrev pub TitlesAreEmpty : Type 0
TitlesAreEmpty = (depth offset : ℕ) (name : List ℕ) → offset < 2 ^ 64 → Has (title depth offset name) []

-- a comment has none
abbrev pub CommentsAreEmpty : Type 0
CommentsAreEmpty = (text : List ℕ) → Has (comment text) []

-- For any slots, the lines of bytes have these bytes.
abbrev pub TextsHaveBytes : Type 0
TextsHaveBytes = (at : ℕ) (slots : List Slot) (bytes : List ℕ) → AreBytes bytes → at + length bytes < 2 ^ 64
    → Has (slots_text at slots bytes) bytes

-- For any form, the text of a table has the table's bytes.
abbrev pub TablesHaveBytes : Type 0
TablesHaveBytes = (form : TableForm) (walk : Option Walk) (bytes : List ℕ) → AreBytes bytes → length bytes < 2 ^ 64
    → bytes_of (table_text form walk bytes) ≡ bytes

-- Tables with the same text are the same bytes.
abbrev pub TextsDetermineTables : Type 0
TextsDetermineTables = (form other : TableForm) (walk way : Option Walk) (a b : List ℕ) → AreBytes a → AreBytes b
    → length a < 2 ^ 64 → length b < 2 ^ 64 → table_text form walk a ≡ table_text other way b → a ≡ b
