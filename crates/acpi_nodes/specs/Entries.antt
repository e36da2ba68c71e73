-- Structures that end in a list of entries.
use Rattle.std.specs.Prelude.{ℕ, List, [], Vec, Option, Some, None}
use Rattle.std.specs.declared.alloc.Global.{Global}
use Rattle.std.specs.List.{flat_map}
use Rattle.acpi_base.specs.Fields.{NamedField, fields_joined}

-- the entries that were given, or none
abbrev pub entries_of : {T : Type 0} → Option (Vec T Global) → List T
entries_of None = []
entries_of (Some given) = given.items

-- the bytes of records, in order
abbrev pub records_joined : {T : Type 0} → (T → List NamedField) → List T → List ℕ
records_joined fields records = flat_map (λ r. fields_joined (fields r)) records
