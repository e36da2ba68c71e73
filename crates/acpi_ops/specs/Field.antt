-- Fields that are reached by another field (ACPI 6.5, 20.2.5.2).
use Rattle.std.specs.Prelude.{ℕ, List}
use Rattle.acpi_term.specs.Tree.{Head, def_index_field, def_bank_field}
use Rattle.acpi_aml.specs.Field.{access_number, lock_number, update_number, entries_of}
use Rattle.acpi_aml.specs.declared.field.FieldAccessType.{FieldAccessType}
use Rattle.acpi_aml.specs.declared.field.FieldEntry.{FieldEntry}
use Rattle.acpi_aml.specs.declared.field.FieldLockRule.{FieldLockRule}
use Rattle.acpi_aml.specs.declared.field.FieldUpdateRule.{FieldUpdateRule}

-- DefIndexField: the names of the index and of the data
abbrev pub index_field_head : List ℕ → List ℕ → FieldAccessType → FieldLockRule → FieldUpdateRule → List FieldEntry → Head
index_field_head index name access_type lock_rule update_rule fields =
    def_index_field index name (access_number access_type) (lock_number lock_rule) (update_number update_rule)
    (entries_of fields)

-- DefBankField: the names of the region and of the bank
abbrev pub bank_field_head : List ℕ → List ℕ → FieldAccessType → FieldLockRule → FieldUpdateRule → List FieldEntry → Head
bank_field_head name bank access_type lock_rule update_rule fields =
    def_bank_field name bank (access_number access_type) (lock_number lock_rule) (update_number update_rule)
    (entries_of fields)
