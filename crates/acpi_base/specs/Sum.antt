-- The running sum of a table.
use Rattle.std.specs.Prelude.{ℕ}

-- a sum modulo 256, and how many bytes were added to it or subtracted from it
pub record Sum : Type 0 where
  pub value : ℕ
  pub summed : ℕ
