-- The Root System Description Pointer in memory (ACPI 6.5, 5.2.5.1).
use Rattle.std.specs.Prelude.{◌≡◌, ◌⊎◌, ℕ, ◌*◌, ◌%◌, ◌<◌, ◌≤◌, List, length, take, drop, sum, codes}
use Rattle.acpi_c_calls.specs.Fault.{number_of}
use Rattle.acpi_c_calls.specs.declared.fault.Fault.TheVariants.{NoPointer}

-- the bytes begin with a pointer: its signature, and 20 bytes whose sum is zero
pub record IsPointer (bytes : List ℕ) : Type 0 where
  pub long : 20 ≤ length bytes
  pub signature : take 8 bytes ≡ codes "RSD PTR "
  pub sums : sum (take 20 bytes) % 256 ≡ 0

-- a pointer is at this offset, a multiple of 16, and none is at a multiple before it
pub record IsFirstPointer (bytes : List ℕ) (offset number : ℕ) : Type 0 where
  pub index : ℕ
  pub at : offset ≡ 16 * index
  pub is : IsPointer (drop offset bytes)
  pub first : (k : ℕ) → k < index → ¬ IsPointer (drop (16 * k) bytes)
  pub fine : number ≡ 0

-- no pointer is at a multiple of 16
pub record IsNoPointer (bytes : List ℕ) (offset number : ℕ) : Type 0 where
  pub none : (k : ℕ) → ¬ IsPointer (drop (16 * k) bytes)
  pub nowhere : offset ≡ 0
  pub fault : number ≡ number_of NoPointer

abbrev pub Finds : List ℕ → ℕ → ℕ → Type 0
Finds bytes offset number = IsFirstPointer bytes offset number ⊎ IsNoPointer bytes offset number
