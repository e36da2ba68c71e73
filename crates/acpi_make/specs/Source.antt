-- What a text is read by.
use Rattle.std.specs.Prelude.{ℕ, List}
use Rattle.acpi_base.specs.declared.walk.Place.{Place}
use Rattle.acpi_text.specs.declared.form.TableForm.{TableForm}
use Rattle.acpi_make.specs.declared.draft.Source as declared

-- the form of the table, the place of a structure's type, and the text itself
pub record Source : Type 0 where
  pub form : TableForm
  pub kind : Place
  pub text : List ℕ

abbrev pub source_of : declared.Source → Source
source_of s = record { form = s.form; kind = s.kind; text = s.text.now }
