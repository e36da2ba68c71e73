-- The fields of a file's bytes.
use Rattle.std.specs.Prelude.{◌≡◌, ℕ, List}
use Rattle.acpi_forms.specs.File.{file_names, file_walk}
use Rattle.acpi_forms.specs.Named.{IsNamed}
use Rattle.acpi_rules.specs.Field.{Field, table_fields}
use Rattle.acpi_text.specs.declared.form.TableForm.{TableForm}

-- the fields of bytes by their form
pub record AreFields (bytes : List ℕ) (fields : List Field) : Type 0 where
  pub form : TableForm
  pub is_named : IsNamed form (file_names bytes)
  pub are : fields ≡ table_fields form (file_walk bytes) bytes
