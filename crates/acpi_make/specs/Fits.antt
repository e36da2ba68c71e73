-- Widths of numbers.
use Rattle.std.specs.Prelude.{ℕ, zero, suc, ◌/◌, ◌==◌, Bool}

-- whether a number has at most w bytes
abbrev pub fits : ℕ → ℕ → Bool
fits zero value = value == 0
fits (suc w) value = fits w (value / 256)
