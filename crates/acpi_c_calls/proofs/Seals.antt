-- Bytes whose length and checksum were set.
use Rattle.std.proofs.Common.{◌≡◌, ℕ, ◌≤◌, ◌<◌, ◌^◌, List, length, sym, subst}
use Rattle.acpi_base.specs.Sdt.{sealed}
use Rattle.acpi_base.specs.Table.{IsTrueTable}
use Rattle.acpi_base.proofs.Tables.{sealed_is_true}

pub sealed_table : (old new : List ℕ) → 36 ≤ length old → length old < 2 ^ 32 → new ≡ sealed old → IsTrueTable new
sealed_table old new header fits is = subst IsTrueTable (sym is) (sealed_is_true old header fits).0
