-- Tables to which bytes are added.
use Rattle.std.specs.Prelude.{◌≡◌, ◌≢◌, ℕ, ◌+◌, ◌*◌, ◌^◌, ◌<◌, ◌≤◌, nat_lt, List, [], ◌∷◌, ◌++◌, length}
use Rattle.std.specs.Prelude.{Bool, true, false, IsTrue, refl, None, Result, OnOk, OnErr, IfErr}
use Rattle.std.proofs.Common.{arith, length-append}
use Rattle.std.proofs.lemmas.Bool.Decides.{nat_tests}
use Rattle.acpi_base.specs.declared.error.Error.{Error}
use Rattle.acpi_base.specs.declared.error.Error.TheVariants.{Memory, FieldWidth}
use Rattle.acpi_base.specs.Bytes.{le, put}
use Rattle.acpi_base.specs.Sink.{Meaning}
use Rattle.acpi_base.specs.Object.{Object}
use Rattle.acpi_base.specs.Table.{with_checksum}

-- the bytes of a table, and how many bytes were summed for it
pub record Contents : Type 0 where
  pub bytes : List ℕ
  pub summed : ℕ

-- the bytes are this many
abbrev pub HasLength : ℕ → List ℕ → Type 0
HasLength n bytes = length bytes ≡ n

-- ---- the bytes after a call

-- the bytes with their length at offset 4 and the right checksum
abbrev pub sealed : List ℕ → List ℕ
sealed bytes = with_checksum (put 4 (le 4 (length bytes)) bytes)

-- a table after bytes were added
abbrev pub added : List ℕ → List ℕ → List ℕ
added table [] = table
added table (b ∷ bytes) = sealed (table ++ b ∷ bytes)

-- a table after bytes were written over those at an offset
abbrev pub overwritten : List ℕ → ℕ → List ℕ → List ℕ
overwritten table offset bytes = with_checksum (put offset bytes table)

-- how many bytes are summed for an addition: the added bytes, the four of the old length and the four of the new length
abbrev pub addition_cost : List ℕ → ℕ
addition_cost [] = 0
addition_cost (b ∷ bytes) = length (b ∷ bytes) + 8

-- The bytes were added at the end, or the call failed and nothing changed. It fails with `FieldWidth`, and only where the length
-- would reach 2^32.
pub record Addition (result : Result Unit Error) (old : Contents) (bytes : List ℕ) (new : Contents) : Type 0 where
  pub ok : OnOk result (new.bytes ≡ added old.bytes bytes)
  pub fits : OnOk result (length old.bytes + length bytes < 2 ^ 32)
  pub err : OnErr result (new ≡ old)
  pub cause : IfErr result (λ e. e ≢ Memory → (e ≡ FieldWidth) × (2 ^ 32 ≤ length old.bytes + length bytes))
  pub cost : OnOk result (new.summed ≡ old.summed + addition_cost bytes)

-- all bytes of an object without an error were written at the end
pub record AddedObject (object : Object) (old new : List ℕ) : Type 0 where
  pub is_whole : object.end ≡ None
  pub is : new ≡ added old object.front

-- Bytes were written over those at an offset. The old and the new bytes were summed, and the old byte at the checksum's offset.
pub record Overwriting (old : Contents) (offset : ℕ) (bytes : List ℕ) (new : Contents) : Type 0 where
  pub is : new.bytes ≡ overwritten old.bytes offset bytes
  pub cost : new.summed ≡ old.summed + (2 * length bytes + 1)

-- ---- tables as sinks

-- whether the table's length fits 32 bits after these bytes are added
abbrev pub fits : List ℕ → List ℕ → Bool
fits table [] = true
fits table (b ∷ bytes) = nat_lt (length table + length (b ∷ bytes)) (2 ^ 32)

abbrev pub is_field_width : Error → Bool
is_field_width FieldWidth = true
is_field_width _ = false

-- a table as a sink
unfoldable pub sdt_of : List ℕ → Meaning
sdt_of table = record { shows = added table; takes = fits table; tells = is_field_width; wants_memory = true }

pub sdt_takes_nothing : (table : List ℕ) → IsTrue ((sdt_of table).takes [])
unfolding sdt_of
sdt_takes_nothing table = refl

pub sdt_takes_beginning : (table a b : List ℕ) → IsTrue ((sdt_of table).takes (a ++ b)) → IsTrue ((sdt_of table).takes a)
unfolding sdt_of
sdt_takes_beginning table [] b taken = refl
sdt_takes_beginning table (x ∷ a) b taken = grind (arith, nat_tests, length-append (x ∷ a) b, taken)
