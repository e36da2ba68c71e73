-- Offsets of lists that a structure contains.
use Rattle.std.specs.Prelude.{ℕ, ◌==◌, if◌then◌else◌}

-- the offset of a list with this number of bytes or entries, or 0 if it is empty
abbrev pub offset_if : ℕ → ℕ → ℕ
offset_if count offset = if count == 0 then 0 else offset
