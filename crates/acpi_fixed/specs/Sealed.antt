-- Tables that end in zeros.
use Rattle.std.specs.Prelude.{ℕ, ◌-◌, List, ◌++◌, length}
use Rattle.acpi_base.specs.Bytes.{zeros}
use Rattle.acpi_base.specs.Table.{table_of}
use Rattle.acpi_base.specs.declared.oem.Oem.{Oem}

-- the table of a size with a signature, a revision, and after its header these bytes and zeros
abbrev pub padded : ℕ → List ℕ → ℕ → Oem → List ℕ → List ℕ
padded size signature revision oem first = table_of signature revision oem (first ++ zeros (size - 36 - length first))
