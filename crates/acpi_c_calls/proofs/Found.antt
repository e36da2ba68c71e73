-- The structures that were found.
use Rattle.std.proofs.Common.{◌≡◌, ℕ, List, Result, Ok, Err, IfOk, IfErr, subst, inr}
use Rattle.std.specs.Prelude.{IsErrAnd}
use Rattle.acpi_base.specs.Table.{IsTrueTable}
use Rattle.acpi_base.specs.FurtherWalk.{AreStructuresOf}
use Rattle.acpi_read.specs.Pieces.{structure_kind_of, structure_offsets_of, IsStructureFault}
use Rattle.acpi_term.specs.declared.read_error.ReadError.{ReadError}
use Rattle.acpi_term.specs.declared.read_error.ReadError.TheVariants.{Memory}
use Rattle.acpi_c_calls.specs.Results.{seen, IsOutcome}
use Rattle.acpi_c_calls.specs.Refused.{by_memory, by_read}
use Rattle.acpi_c_calls.specs.Structures.{structures, AreStructures, IsStructuresRefusal}
use Rattle.acpi_c_calls.specs.declared.refused.Refused.{Refused}
use Rattle.acpi_c_calls.specs.declared.structures.Structure.{Structure}

pub outcome : {A : Type 0} (view : A → List Structure) (result : Result A Refused) (bytes : List ℕ) (pieces : List (List ℕ))
    → IsTrueTable bytes → AreStructuresOf bytes pieces
    → IfOk result (λ found. view found ≡ structures (structure_kind_of bytes) (structure_offsets_of bytes pieces) pieces) → IfErr result (λ refused. refused ≡ by_memory)
    → IsOutcome (AreStructures bytes) (IsStructuresRefusal bytes) (seen view result)
outcome view (Ok found) bytes pieces table walk ok err = record { table = table; pieces = pieces; walk = walk; are = ok }
outcome view (Err refused) bytes pieces table walk ok err = record { error = Memory; is = err; why = inr (table, tt) }

-- the structures of a table aren't found
pub not_found : {A : Type 0} (view : A → List Structure) (result : Result A Refused) (error : ReadError) (seen_bytes bytes : List ℕ)
    → seen_bytes ≡ bytes → IsTrueTable bytes → IsStructureFault error seen_bytes → IsErrAnd result (λ refused. refused ≡ by_read error)
    → IsOutcome (AreStructures bytes) (IsStructuresRefusal bytes) (seen view result)
not_found view (Ok found) error seen_bytes bytes same table fault by = absurd by
not_found view (Err refused) error seen_bytes bytes same table fault by =
    record { error = error; is = by; why = inr (table, subst (λ (b : List ℕ). IsStructureFault error b) same fault) }
