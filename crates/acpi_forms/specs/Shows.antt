-- What the text of a table is.
use Rattle.std.specs.Prelude.{◌≡◌, ℕ, List, Option}
use Rattle.acpi_base.specs.declared.walk.Walk.{Walk}
use Rattle.acpi_text.specs.Table.{table_text}
use Rattle.acpi_text.specs.declared.form.TableForm.{TableForm}
use Rattle.acpi_forms.specs.Named.{Named, IsNamed}

-- the text of bytes by a form that has these names
pub record IsTextOf (names : Named) (walk : Option Walk) (bytes text : List ℕ) : Type 0 where
  pub form : TableForm
  pub is_named : IsNamed form names
  pub is : text ≡ table_text form walk bytes
