-- The System Locality Information Table (ACPI 6.5, 5.2.17).
use Rattle.std.specs.Prelude.{◌≡◌, ℕ, ◌+◌, ◌-◌, ◌*◌, ◌%◌, ◌<◌, nat_lt, ◌&&◌, ◌==◌, if◌then◌else◌, ◌∷◌, ◌++◌}
use Rattle.std.specs.Prelude.{Bool, true, false, List, [], codes, length, take, drop, sum, replicate}
use Rattle.std.specs.Prelude.{Result, Ok, Err, OnOk, OnErr, IfErr}
use Rattle.acpi_base.specs.declared.error.Error.{Error}
use Rattle.acpi_base.specs.declared.error.Error.TheVariants.{Index}
use Rattle.acpi_base.specs.declared.oem.Oem.{Oem}
use Rattle.acpi_base.specs.Bytes.{put, field_at}
use Rattle.acpi_base.specs.Fields.{NamedField, qword, fields_joined}
use Rattle.acpi_base.specs.Header.{header}
use Rattle.acpi_base.specs.Table.{table_of, IsTrueTable}

-- The distances between localities, one byte each: that of a and b is at a + localities * b.
pub record Distances : Type 0 where
  pub oem : Oem
  pub localities : ℕ
  pub cells : List ℕ

-- the distances, and how many bytes were summed for the table
pub record Counted : Type 0 where
  pub table : Distances
  pub summed : ℕ

-- the fields between the header and the distances
abbrev pub slit_fields : ℕ → List NamedField
slit_fields localities =
    qword "Number of System Localities" localities  -- 36
    ∷ []

abbrev pub localities_bytes : ℕ → List ℕ
localities_bytes localities = fields_joined (slit_fields localities)

-- The table's bytes: their number is at offset 4, and the checksum at offset 9 makes their sum zero.
abbrev pub slit_bytes : Distances → List ℕ
slit_bytes t = table_of (codes "SLIT") 1 t.oem (localities_bytes t.localities ++ t.cells)  -- 44: Entries

-- all distances are 10, which is the distance of a locality to itself
abbrev pub slit : Oem → ℕ → Distances
slit oem localities = record { oem = oem; localities = localities; cells = replicate (localities * localities) 10 }

-- the index of the distance of two localities among the cells
abbrev pub place_of : ℕ → ℕ → ℕ → ℕ
place_of localities a b = a + localities * b

-- the distance of two localities
abbrev pub distance : Distances → ℕ → ℕ → ℕ
distance t a b = field_at (place_of t.localities a b) 1 t.cells

-- both distances of two localities are set
abbrev pub with_distance : Distances → ℕ → ℕ → ℕ → Distances
with_distance t a b value = record {
  oem = t.oem;
  localities = t.localities;
  cells = put (place_of t.localities b a) (value ∷ []) (put (place_of t.localities a b) (value ∷ []) t.cells);
}

-- The header's values have the widths of their fields, there is a cell for any two localities, the distances are symmetric, and
-- the length fits its field.
pub record IsMatrix (t : Distances) : Type 0 where
  pub id : length t.oem.id ≡ 6
  pub table_id : length t.oem.table_id ≡ 8
  pub square : length t.cells ≡ t.localities * t.localities
  pub fits : t.localities < 65536
  pub symmetric : (a b : ℕ) → a < t.localities → b < t.localities → distance t a b ≡ distance t b a

abbrev pub has_cell : Distances → ℕ → ℕ → Bool
has_cell t a b = nat_lt a t.localities && nat_lt b t.localities

-- how many bytes are summed for a new distance: the old and the new one in each direction, or once for a locality's distance to
-- itself
abbrev pub cost_of : ℕ → ℕ → ℕ
cost_of a b = if a == b then 2 else 4

-- The distance was set; or there are no such localities, and nothing changed.
pub record SetsDistance (result : Result Unit Error) (old : Counted) (a b value : ℕ) (new : Counted) : Type 0 where
  pub ok : OnOk result (new.table ≡ with_distance old.table a b value)
  pub inside : OnOk result (has_cell old.table a b ≡ true)
  pub err : OnErr result (new ≡ old)
  pub cause : IfErr result (λ e. (e ≡ Index) × (has_cell old.table a b ≡ false))
  pub cost : OnOk result (new.summed ≡ old.summed + cost_of a b)

-- ---- laws

-- The bytes of a matrix are a correct table: 44 bytes, and its cells.
abbrev pub DistancesAreTrue : Type 0
DistancesAreTrue =
    (t : Distances) → IsMatrix t → IsTrueTable (slit_bytes t) × (length (slit_bytes t) ≡ 44 + t.localities * t.localities)

-- The distance is set in both directions, no other changes, and a symmetric matrix stays symmetric.
abbrev pub DistancesAreSet : Type 0
DistancesAreSet =
    (t : Distances) (a b value : ℕ) → IsMatrix t → has_cell t a b ≡ true
    → IsMatrix (with_distance t a b value)
    × (distance (with_distance t a b value) a b ≡ value)
    × (distance (with_distance t a b value) b a ≡ value)
    × ((c d : ℕ) → has_cell t c d ≡ true → ((c ≡ a) × (d ≡ b) → ⊥) → ((c ≡ b) × (d ≡ a) → ⊥)
    → distance (with_distance t a b value) c d ≡ distance t c d)

-- ---- any list of calls

-- a call of `set_distance`: two localities, their distance, the result, and the table after it
pub data DistanceCall : Type 0 where
  sets : ℕ → ℕ → ℕ → Result Unit Error → Counted → DistanceCall

-- the calls were made one after another, each on the table that the call before it left
abbrev pub AreDistanceCalls : Counted → List DistanceCall → Type 0
AreDistanceCalls t [] = Unit {0}
AreDistanceCalls t (sets a b value r next ∷ calls) = SetsDistance r t a b value next × AreDistanceCalls next calls

-- the table after the last call
abbrev pub slit_after : Counted → List DistanceCall → Counted
slit_after t [] = t
slit_after t (sets a b value r next ∷ calls) = slit_after next calls

-- the distances that the successful calls set, in order
abbrev pub all_set : Distances → List DistanceCall → Distances
all_set t [] = t
all_set t (sets a b value (Ok done) next ∷ calls) = all_set (with_distance t a b value) calls
all_set t (sets a b value (Err e) next ∷ calls) = all_set t calls

-- For every list of calls that leads from a new table to this one, it is the new table with the distances that the successful
-- calls set, in order.
pub record IsSlitAfterItsCalls (last : Counted) : Type 0 where
  pub holds : (oem : Oem) (localities : ℕ) (start : Counted) (calls : List DistanceCall) → start.table ≡ slit oem localities
      → AreDistanceCalls start calls → slit_after start calls ≡ last → last.table ≡ all_set (slit oem localities) calls

-- ---- in a table's bytes

-- In a table's bytes the distances begin at offset 44, and they are symmetric.
pub record IsSymmetric (t : Distances) : Type 0 where
  pub cells : (a b : ℕ) → has_cell t a b ≡ true → field_at (44 + place_of t.localities a b) 1 (slit_bytes t) ≡ distance t a b
  pub mirrored : (a b : ℕ) → has_cell t a b ≡ true
      → field_at (44 + place_of t.localities a b) 1 (slit_bytes t) ≡ field_at (44 + place_of t.localities b a) 1 (slit_bytes t)

-- ---- in parts

-- the maker of a table, from its header
abbrev pub oem_of : List ℕ → Oem
oem_of fixed = record { id = take 6 (drop 10 fixed); table_id = take 8 (drop 16 fixed); revision = field_at 24 4 fixed }

-- the table with these parts: the header with the number of localities, and the cells
abbrev pub parts_of : List ℕ → ℕ → List ℕ → Distances
parts_of fixed localities cells = record { oem = oem_of fixed; localities = localities; cells = cells }

-- the header with a checksum of 0, and the number of localities
abbrev pub front_of : Distances → List ℕ
front_of t =
    header (codes "SLIT") (36 + length (localities_bytes t.localities ++ t.cells)) 1 t.oem ++ localities_bytes t.localities

-- The parts are those of a matrix: the bytes before its cells, with the checksum, and the cells. The running sum is that of all
-- bytes except the checksum.
pub record IsParts (fixed : List ℕ) (localities : ℕ) (cells : List ℕ) (running : ℕ) : Type 0 where
  pub is : IsMatrix (parts_of fixed localities cells)
  pub front : fixed ≡ put 9 ((256 - running) % 256 ∷ []) (front_of (parts_of fixed localities cells))
  pub sums : running ≡ sum (front_of (parts_of fixed localities cells) ++ cells) % 256
