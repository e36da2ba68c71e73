-- What laws say.
use Rattle.std.specs.Prelude.{◌≡◌, ℕ, List, map, Option}
use Rattle.acpi_base.specs.declared.walk.Walk.{Walk}
use Rattle.acpi_text.specs.Names as names
use Rattle.acpi_text.specs.declared.form.TableForm.{TableForm}
use Rattle.acpi_rules.specs.Field.{Field, table_fields}

-- a field without what its value is
abbrev pub plain : Field → names.Named
plain f = record { offset = f.offset; name = f.name; bytes = f.bytes }

-- The fields of a table are those of which its text has a line each, in this order.
abbrev pub FieldsAreShown : Type 0
FieldsAreShown = (form : TableForm) (walk : Option Walk) (bytes : List ℕ)
    → map plain (table_fields form walk bytes) ≡ names.table_fields form walk bytes
