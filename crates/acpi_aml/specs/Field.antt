-- Fields of operation regions (ACPI 6.5, 20.2.5.2).
use Rattle.std.specs.Prelude.{ℕ, List, map}
use Rattle.acpi_aml.specs.declared.field.FieldAccessType.{FieldAccessType}
use Rattle.acpi_aml.specs.declared.field.FieldAccessType.TheVariants as access
use Rattle.acpi_aml.specs.declared.field.FieldLockRule.{FieldLockRule}
use Rattle.acpi_aml.specs.declared.field.FieldLockRule.TheVariants as lock
use Rattle.acpi_aml.specs.declared.field.FieldUpdateRule.{FieldUpdateRule}
use Rattle.acpi_aml.specs.declared.field.FieldUpdateRule.TheVariants as update
use Rattle.acpi_aml.specs.declared.field.FieldEntry.{FieldEntry}
use Rattle.acpi_aml.specs.declared.field.FieldEntry.TheVariants.{Named, Reserved}
use Rattle.acpi_term.specs.Tree.{Entry, Head, def_field}
use Rattle.acpi_term.specs.Row.{named_entry, reserved_entry}

-- AccessType
abbrev pub access_number : FieldAccessType → ℕ
access_number access.Any = 0
access_number access.Byte = 1
access_number access.Word = 2
access_number access.DWord = 3
access_number access.QWord = 4
access_number access.Buffer = 5

-- LockRule
abbrev pub lock_number : FieldLockRule → ℕ
lock_number lock.NoLock = 0
lock_number lock.Lock = 1

-- UpdateRule
abbrev pub update_number : FieldUpdateRule → ℕ
update_number update.Preserve = 0
update_number update.WriteAsOnes = 1
update_number update.WriteAsZeroes = 2

-- an entry, whose length has the width that is written
abbrev pub entry_of : FieldEntry → Entry
entry_of (Named name bits) = named_entry name bits
entry_of (Reserved bits) = reserved_entry bits

abbrev pub entries_of : List FieldEntry → List Entry
entries_of entries = map entry_of entries

-- a field's head
abbrev pub field_head : List ℕ → FieldAccessType → FieldLockRule → FieldUpdateRule → List FieldEntry → Head
field_head path access_type lock_rule update_rule fields =
    def_field path (access_number access_type) (lock_number lock_rule) (update_number update_rule) (entries_of fields)
