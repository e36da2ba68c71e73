-- Where the bytes of a name are stored.
use Rattle.std.specs.Prelude.{ℕ, ◌≤◌, List, take}
use Rattle.acpi_term.specs.declared.name_string.NameBytes.{NameBytes}
use Rattle.acpi_term.specs.declared.name_string.NameBytes.TheVariants.{Few, Many}

-- the bytes
abbrev pub held : NameBytes → List ℕ
held (Few count bytes) = take count bytes
held (Many bytes) = bytes.value.items

-- the counted bytes fit the value itself
abbrev pub Holds : NameBytes → Type 0
Holds (Few count bytes) = count ≤ 14
Holds (Many bytes) = Unit {0}
