-- A table as an object of JSON.
use Rattle.std.specs.Prelude.{◌≡◌, ℕ, List}
use Rattle.acpi_forms.specs.File.{file_names, file_walk}
use Rattle.acpi_forms.specs.Kind.{kind_of}
use Rattle.acpi_forms.specs.Named.{IsNamed}
use Rattle.acpi_json.specs.Table.{table}
use Rattle.acpi_text.specs.declared.form.TableForm.{TableForm}
use Rattle.acpitool_program.specs.Text.{IsKind}

-- the object of bytes in a file of this name, by their form
pub record IsByForm (name bytes text : List ℕ) : Type 0 where
  pub form : TableForm
  pub is_named : IsNamed form (file_names bytes)
  pub is : text ≡ table name form (file_walk bytes) bytes

-- bytes are what their signature says, and this is their object
pub record IsObject (name bytes text : List ℕ) : Type 0 where
  pub kind : IsKind (kind_of bytes) bytes
  pub is : IsByForm name bytes text
