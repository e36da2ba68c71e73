-- Pointers in memory.
use Rattle.std.proofs.Common.{◌≡◌, ℕ, ◌+◌, ◌-◌, ◌*◌, ◌<◌, List, length, drop, arith, length-drop}
use Rattle.acpi_c_calls.specs.Find.{IsPointer}

-- where fewer than 20 bytes are left, there is none
pub none_after : (bytes : List ℕ) (n : ℕ) → length bytes < 16 * n + 16 → ((k : ℕ) → k < n → ¬ IsPointer (drop (16 * k) bytes))
    → (k : ℕ) → ¬ IsPointer (drop (16 * k) bytes)
none_after bytes n few none k is =
    let size : length (drop (16 * k) bytes) ≡ length bytes - 16 * k = length-drop (16 * k) bytes in
    none k (omega (arith, is.long, size, few)) is
