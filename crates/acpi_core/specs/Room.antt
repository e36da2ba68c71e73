-- Where the bytes of entries are stored.
use Rattle.std.specs.Prelude.{◌≡◌, ℕ, ◌≤◌, List, take, length}
use Rattle.acpi_core.specs.declared.entries.Room.{Room}
use Rattle.acpi_core.specs.declared.entries.Room.TheVariants.{Few, Many}

-- the bytes in use
abbrev pub held : ℕ → Room → List ℕ
held size (Few bytes) = take size bytes
held size (Many bytes) = bytes.items

-- this many bytes fit the value itself, or are all of the vector
abbrev pub Holds : ℕ → Room → Type 0
Holds size (Few bytes) = size ≤ 16
Holds size (Many bytes) = length bytes.items ≡ size
