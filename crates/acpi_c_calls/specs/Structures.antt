-- The structures of a table.
use Rattle.std.specs.Prelude.{◌≡◌, ◌⊎◌, ℕ, ◌-◌, ◌^◌, List, [], ◌∷◌, length, Option, Some, None}
use Rattle.acpi_base.specs.Table.{IsTrueTable}
use Rattle.acpi_base.specs.FurtherWalk.{AreStructuresOf}
use Rattle.acpi_base.specs.declared.walk.Place.{Place}
use Rattle.acpi_read.specs.Pieces.{kind_in, structure_kind_of, structure_offsets_of, IsStructureFault}
use Rattle.acpi_read.specs.Table.{IsFault}
use Rattle.acpi_term.specs.declared.read_error.ReadError.{ReadError}
use Rattle.acpi_c_calls.specs.Refused.{by_read}
use Rattle.acpi_c_calls.specs.declared.refused.Refused.{Refused}
use Rattle.acpi_c_calls.specs.declared.structures.Structure.{Structure}

-- a type, or 2^64 - 1 if there is none
abbrev pub kind_or_none : Option ℕ → ℕ
kind_or_none (Some kind) = kind
kind_or_none None = 2 ^ 64 - 1

-- the structure of a piece at an offset
abbrev pub structure : Place → ℕ → List ℕ → Structure
structure kind offset piece = record { offset = offset; kind = kind_or_none (kind_in kind piece); size = length piece }

abbrev pub structures : Place → List ℕ → List (List ℕ) → List Structure
structures kind (offset ∷ offsets) (piece ∷ pieces) = structure kind offset piece ∷ structures kind offsets pieces
structures kind _ _ = []

-- bytes are a table, and these are its structures
pub record AreStructures (bytes : List ℕ) (found : List Structure) : Type 0 where
  pub table : IsTrueTable bytes
  pub pieces : List (List ℕ)
  pub walk : AreStructuresOf bytes pieces
  pub are : found ≡ structures (structure_kind_of bytes) (structure_offsets_of bytes pieces) pieces

-- bytes aren't a table, or its structures aren't found
pub record IsStructuresRefusal (bytes : List ℕ) (refused : Refused) : Type 0 where
  pub error : ReadError
  pub is : refused ≡ by_read error
  pub why : IsFault error bytes ⊎ (IsTrueTable bytes × IsStructureFault error bytes)
