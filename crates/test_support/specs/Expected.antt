-- The tables that tests expect.
use Rattle.std.specs.Prelude.{◌≡◌, ℕ, ◌+◌, List, [], ◌∷◌, ◌++◌, All, codes, drop, length, take}
use Rattle.std.specs.List.{concat}
use Rattle.acpi_base.specs.Bytes.{le}
use Rattle.acpi_base.specs.Table.{with_checksum}
use Rattle.acpi_base.specs.Walk.{offsets_from}
use Rattle.acpi_base.specs.FurtherWalk.{AreStructuresOf}
use Rattle.acpi_read.specs.Pieces.{structure_offsets_of}

-- the bytes of the standard header from its OEM ID on (ACPI 6.5, 5.2.6, offset 10)
abbrev pub makers : List ℕ
makers = codes "FOOBARCAFEDEAD" ++ (0xef ∷ 0xbe ∷ 0xad ∷ 0xde ∷ (codes "RVAT" ++ (0 ∷ 0 ∷ 0 ∷ 1 ∷ [])))

-- the table with a signature, a revision, and these bytes after its header
abbrev pub expected : List ℕ → ℕ → List ℕ → List ℕ
expected signature revision body =
    with_checksum (signature ++ (le 4 (36 + length body) ++ (revision ∷ 0 ∷ (makers ++ body))))

-- Bytes have these at an offset.
pub record AreAt (offset : ℕ) (wanted bytes : List ℕ) : Type 0 where
  pub are : take (length wanted) (drop offset bytes) ≡ wanted

-- The structures that the walk of a table finds have this size each, follow each other from an offset on, and are these bytes.
pub record ReadsBack (start size : ℕ) (structures bytes : List ℕ) : Type 0 where
  pub pieces : List (List ℕ)
  pub found : AreStructuresOf bytes pieces
  pub sized : All (λ piece. length piece ≡ size) pieces
  pub placed : structure_offsets_of bytes pieces ≡ offsets_from start pieces
  pub joined : concat pieces ≡ structures
