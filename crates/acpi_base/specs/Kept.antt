-- The invariant of a table's bytes and its running sum.
use Rattle.std.specs.Prelude.{◌≡◌, ℕ, ◌%◌, ◌≤◌, ◌<◌, ◌^◌, List, [], ◌∷◌, length, sum}
use Rattle.acpi_base.specs.Bytes.{put}
use Rattle.acpi_base.specs.Table.{with_checksum}

-- The bytes have a header, a length that fits its field and a right checksum. The running sum is that of all other bytes.
pub record IsKept (bytes : List ℕ) (kept : ℕ) : Type 0 where
  pub header : 36 ≤ length bytes
  pub fits : length bytes < 2 ^ 32
  pub sealed : bytes ≡ with_checksum bytes
  pub running : kept ≡ sum (put 9 (0 ∷ []) bytes) % 256
