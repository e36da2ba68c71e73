-- Laws about the definitions, which hold for all calls.
use Rattle.std.specs.Prelude.{◌≡◌, ℕ, ◌+◌, ◌-◌, ◌^◌, ◌%◌, ◌<◌, ◌≤◌, length, drop, List, [], ◌∷◌, ◌++◌, sum, false, None}
use Rattle.std.specs.Int.{to_le_bytes, w16, w32, w64}
use Rattle.acpi_base.specs.declared.error.Error.{Error}
use Rattle.acpi_base.specs.Bytes.{le}
use Rattle.acpi_base.specs.Sink.{Meaning, after}
use Rattle.acpi_base.specs.Object.{Object, Wrote, WriteRefused}
use Rattle.acpi_base.specs.Checksum.{checksum_of}
use Rattle.acpi_base.specs.Table.{table_of, IsTrueTable}
use Rattle.acpi_base.specs.Sdt.{Contents, added, overwritten}
use Rattle.acpi_base.specs.SdtCalls.{SdtCall, AreSdtCalls, sdt_after, IsSdtAfter}
use Rattle.acpi_base.specs.declared.oem.Oem.{Oem}

abbrev pub WritesJoin : Type 0
WritesJoin = (sink : Meaning) (a b : List ℕ) → after (after sink a) b ≡ after sink (a ++ b)

abbrev pub NothingChangesNothing : Type 0
NothingChangesNothing = (sink : Meaning) → after sink [] ≡ sink

-- a sink after it took bytes one by one
abbrev pub after_each : Meaning → List ℕ → Meaning
after_each sink [] = sink
after_each sink (b ∷ bytes) = after_each (after sink (b ∷ [])) bytes

-- A number is its bytes, lowest first, whether it is written at once or byte by byte.
abbrev pub WordsAreBytes : Type 0
WordsAreBytes =
    (sink : Meaning) (v : ℕ)
    → ((after sink (to_le_bytes w16 v) ≡ after sink (le 2 v)) × (after sink (le 2 v) ≡ after_each sink (le 2 v)))
    × ((after sink (to_le_bytes w32 v) ≡ after sink (le 4 v)) × (after sink (le 4 v) ≡ after_each sink (le 4 v)))
    × ((after sink (to_le_bytes w64 v) ≡ after sink (le 8 v)) × (after sink (le 8 v) ≡ after_each sink (le 8 v)))

abbrev pub FrontsAreSummed : Type 0
FrontsAreSummed = (object : Object) (value : ℕ) → value < 256 → Wrote object (checksum_of 0) (checksum_of value)
    → value ≡ sum object.front % 256

abbrev pub WholeObjectsAreSummed : Type 0
WholeObjectsAreSummed =
    (e : Error) (object : Object) (old new : ℕ) → object.end ≡ None → object.wants_memory ≡ false
    → WriteRefused e object (checksum_of old) (checksum_of new) → ⊥

abbrev pub DeleteRestores : Type 0
DeleteRestores =
    (before appended deleted : ℕ) (bytes : List ℕ) → before < 256 → deleted < 256
    → appended ≡ (before + sum bytes) % 256 → (deleted + sum bytes) % 256 ≡ appended → deleted ≡ before

abbrev pub ValueMakesZero : Type 0
ValueMakesZero = (raw value : ℕ) → raw < 256 → value ≡ (256 - raw) % 256 → (raw + value) % 256 ≡ 0

-- Bytes with a header and a length below 2^32 are a table.
abbrev pub TablesAreTrue : Type 0
TablesAreTrue =
    (signature body : List ℕ) (revision : ℕ) (oem : Oem) → length signature ≡ 4 → length oem.id ≡ 6 → length oem.table_id ≡ 8
    → 36 + length body < 2 ^ 32
    → IsTrueTable (table_of signature revision oem body) × (length (table_of signature revision oem body) ≡ 36 + length body)

-- So are bytes to which others were added, for each value of the old length field.
abbrev pub AddedIsTrue : Type 0
AddedIsTrue =
    (table bytes : List ℕ) → 36 ≤ length table → 1 ≤ length bytes → length table + length bytes < 2 ^ 32
    → IsTrueTable (added table bytes) × (length (added table bytes) ≡ length table + length bytes)

-- Overwriting keeps the number of bytes, and they sum to zero after it.
abbrev pub OverwrittenSumsToZero : Type 0
OverwrittenSumsToZero =
    (table bytes : List ℕ) (offset : ℕ) → 36 ≤ length table → offset + length bytes ≤ length table
    → (sum (overwritten table offset bytes) % 256 ≡ 0) × (length (overwritten table offset bytes) ≡ length table)

abbrev pub AddedAtOnce : Type 0
AddedAtOnce = (table a b : List ℕ) → 36 ≤ length table → added (added table a) b ≡ added table (a ++ b)

-- Added bytes are the last bytes of a table. Those between its header and its end stay.
abbrev pub AddedEnds : Type 0
AddedEnds = (at : ℕ) (table bytes : List ℕ) → 36 ≤ at → at ≤ length table → drop at (added table bytes) ≡ drop at table ++ bytes

-- After any list of calls, successful or not, a table has the bytes that these calls make.
abbrev pub SdtsAreTheirCalls : Type 0
SdtsAreTheirCalls =
    (start : Contents) (calls : List SdtCall) → 36 ≤ length start.bytes → AreSdtCalls start calls
    → IsSdtAfter start calls (sdt_after start calls)
