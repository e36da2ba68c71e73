-- Nested terms.
use Rattle.std.specs.Prelude.{ℕ, zero, suc}
use Rattle.acpi_term.specs.Tree.{Terms, end, term, number, def_else}

-- this many numbers in a row
abbrev pub numbers : ℕ → Terms
numbers zero = end
numbers (suc count) = term (number 0) 0 end (numbers count)

-- terms inside this many frames, whose lengths have four bytes
abbrev pub inside : ℕ → Terms → Terms
inside zero ts = ts
inside (suc frames) ts = term def_else 4 (inside frames ts) end
