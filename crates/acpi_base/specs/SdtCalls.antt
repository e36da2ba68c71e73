-- Lists of calls that change an `Sdt`.
use Rattle.std.specs.Prelude.{◌≡◌, ℕ, ◌+◌, ◌≤◌, List, [], ◌∷◌, ◌++◌, length, Result, Ok, Err}
use Rattle.acpi_base.specs.declared.error.Error.{Error}
use Rattle.acpi_base.specs.Sdt.{Contents, added, overwritten, Addition, Overwriting}
use Rattle.acpi_base.specs.Table.{IsTrueTable}

-- A call, and the table after it. `adds` stands for `append_slice`, `append` and the calls of the sink. `appends` is
-- `append_object`, with the bytes that the object wrote: all of them, or a prefix if the call failed. `writes` stands for
-- `write_bytes`, `write` and the others that overwrite.
pub data SdtCall : Type 0 where
  adds : List ℕ → Result Unit Error → Contents → SdtCall
  appends : List ℕ → Contents → SdtCall
  writes : ℕ → List ℕ → Contents → SdtCall

-- the calls were made one after another, each on the table that the call before it left
abbrev pub AreSdtCalls : Contents → List SdtCall → Type 0
AreSdtCalls t [] = Unit {0}
AreSdtCalls t (adds bytes r next ∷ calls) = Addition r t bytes next × AreSdtCalls next calls
AreSdtCalls t (appends bytes next ∷ calls) = (next.bytes ≡ added t.bytes bytes) × AreSdtCalls next calls
AreSdtCalls t (writes offset bytes next ∷ calls) = Overwriting t offset bytes next × AreSdtCalls next calls

-- the table after the last call
abbrev pub sdt_after : Contents → List SdtCall → Contents
sdt_after t [] = t
sdt_after t (adds bytes r next ∷ calls) = sdt_after next calls
sdt_after t (appends bytes next ∷ calls) = sdt_after next calls
sdt_after t (writes offset bytes next ∷ calls) = sdt_after next calls

-- the bytes after the calls; an `append_object` that failed has added the bytes that the object wrote
abbrev pub changed : List ℕ → List SdtCall → List ℕ
changed table [] = table
changed table (adds bytes (Ok done) next ∷ calls) = changed (added table bytes) calls
changed table (adds bytes (Err e) next ∷ calls) = changed table calls
changed table (appends bytes next ∷ calls) = changed (added table bytes) calls
changed table (writes offset bytes next ∷ calls) = changed (overwritten table offset bytes) calls

-- no call overwrites bytes
abbrev pub AreAdditions : List SdtCall → Type 0
AreAdditions [] = Unit {0}
AreAdditions (adds bytes r next ∷ calls) = AreAdditions calls
AreAdditions (appends bytes next ∷ calls) = AreAdditions calls
AreAdditions (writes offset bytes next ∷ calls) = ⊥

-- the bytes that were added, in order
abbrev pub contents : List SdtCall → List ℕ
contents [] = []
contents (adds bytes (Ok done) next ∷ calls) = bytes ++ contents calls
contents (adds bytes (Err e) next ∷ calls) = contents calls
contents (appends bytes next ∷ calls) = bytes ++ contents calls
contents (writes offset bytes next ∷ calls) = contents calls

-- After the calls the table has the bytes that these calls make. If no call overwrites bytes, it is the first table with all
-- added bytes, in order, as if they were added at once.
pub record IsSdtAfter (start : Contents) (calls : List SdtCall) (last : Contents) : Type 0 where
  pub is : last.bytes ≡ changed start.bytes calls
  pub additions : AreAdditions calls → last.bytes ≡ added start.bytes (contents calls)

-- ---- calls that leave the header

-- no call overwrites a byte of the header, and none passes the end of the table, which callers have to prove
abbrev pub LeaveHeader : Contents → List SdtCall → Type 0
LeaveHeader t [] = Unit {0}
LeaveHeader t (adds bytes r next ∷ calls) = LeaveHeader next calls
LeaveHeader t (appends bytes next ∷ calls) = LeaveHeader next calls
LeaveHeader t (writes offset bytes next ∷ calls) =
    (36 ≤ offset) × (offset + length bytes ≤ length t.bytes) × LeaveHeader next calls

-- After such calls a valid table is the bytes that these calls make, and is valid: its length is right, and it sums to zero.
pub record IsValidAfter (start : Contents) (calls : List SdtCall) (last : Contents) : Type 0 where
  pub is : last.bytes ≡ changed start.bytes calls
  pub valid : IsTrueTable last.bytes

-- This holds for every list of calls that leads from a valid table to this one.
pub record IsValidAfterItsCalls (last : Contents) : Type 0 where
  pub holds : (start : Contents) (calls : List SdtCall) → IsTrueTable start.bytes → AreSdtCalls start calls
      → LeaveHeader start calls → sdt_after start calls ≡ last → IsValidAfter start calls last
