-- The numbers that a text states wrongly.
use Rattle.std.specs.Prelude.{◌≡◌, ℕ, List, map, Ok}
use Rattle.acpi_forms.specs.Makes.{IsMade}
use Rattle.acpi_make.specs.declared.make.Made.{Made}
use Rattle.acpi_make.specs.declared.extent.Own.{Own}
use Rattle.acpi_c_calls.specs.declared.notes.Note.{Note}

abbrev pub note : Own → Note
note own = record { offset = own.offset; width = own.width; value = own.number }

-- a text is made into a table, and these are its notes
pub record AreNotes (text : List ℕ) (found : List Note) : Type 0 where
  pub made : Made
  pub is : IsMade text (Ok made)
  pub are : found ≡ map note made.untrue.items
