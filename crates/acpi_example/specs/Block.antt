-- Definition blocks (ACPI 6.5, 5.2.11.1).
use Rattle.std.specs.Prelude.{ℕ, List, [], codes}
use Rattle.acpi_base.specs.Table.{table_of}

-- a block without contents
abbrev pub empty_bytes : List ℕ
empty_bytes = table_of (codes "DSDT") 2 (record { id = codes "FOOBAR"; table_id = codes "CAFEDEAD"; revision = 0xdead_beef }) []
