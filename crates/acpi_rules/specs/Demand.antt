-- What rules on several fields of a table demand, as data.
use Rattle.std.specs.Prelude.{ℕ, List}
use Rattle.acpi_rules.specs.declared.demand.Among.{Among}
use Rattle.acpi_rules.specs.declared.demand.Demand.{Demand as DemandData}
use Rattle.acpi_rules.specs.declared.demand.Demand.TheVariants as demands
use Rattle.acpi_rules.specs.declared.demand.Relation.{Relation as RelationData}
use Rattle.acpi_rules.specs.declared.demand.Spot.{Spot as SpotData}

-- a field of a part of a table: its offset from the part's first byte, its width in bytes, and its name
pub record Spot : Type 0 where
  pub offset : ℕ
  pub width : ℕ
  pub name : List ℕ

abbrev pub spot_by : SpotData → Spot
spot_by s = record { offset = s.offset; width = s.width; name = s.name.now }

-- What a rule demands of a field in each of some parts of a table:
-- - differs: no two of the parts have the same bytes there;
-- - differs_with: no two of the parts have the same bytes there and the same in another field;
-- - differs_in: no two of the parts of one structure of this type have the same bytes there;
-- - apart: the numbers from there to a last one have none in common with those of another part that has the same bytes in a
--   third field;
-- - disjoint: a range of addresses that begins there, and as long as another field says, has none in common with that of another
--   part;
-- - at_most: it isn't greater than another field of its part;
-- - addresses: a range that begins there, and as long as another field says, ends before 2^64;
-- - blocks: blocks of a size for the numbers from 0 to that of another field, of which the first begins there, end before 2^64;
-- - inside: as many entries of a size as another field says, which begin at the offset that it has, stand in its part;
-- - counts: as many entries of this size as it says stand between this offset and the part's end;
-- - agrees: it is the number in another field of its part, unless one of them is zero;
-- - needed: it isn't zero, or another field of its part isn't;
-- - needs: it is zero, or another field of its part isn't;
-- - between: it is from one number to another;
-- - multiple: it is a multiple of a number;
-- - not_all: the bits of a mask aren't all set in it;
-- - all: the bits of a mask are all set in it;
-- - terminated: as many bytes as another field says, which begin at the offset that it has, end with a zero;
-- - terminated_at: as many bytes as it says, which begin at this offset, end with a zero;
-- - terminated_before: it is the first byte of a string, and one of the bytes from this offset to the one that another field has
--   is zero, or of those to the part's end if that one is zero;
-- - points: it is zero, or the offset of a structure of one of these types;
-- - refers: it is zero, or the number in this field of a structure of this type;
-- - ends: parts of which each has the offset of the next one there come to an end;
-- - distances: it is the number of localities, whose distances begin in this field (ACPI 6.5, 5.2.17);
-- - includes: the table has a part that is one of these, and the text says what they are.
pub data Demand : Type 0 where
  differs : Demand
  differs_with : Spot → Demand
  differs_in : ℕ → Demand
  apart : Spot → Spot → Demand
  disjoint : Spot → Demand
  at_most : Spot → Demand
  addresses : Spot → Demand
  blocks : Spot → ℕ → Demand
  inside : Spot → ℕ → Demand
  counts : ℕ → ℕ → Demand
  agrees : Spot → Demand
  needed : Spot → Demand
  needs : Spot → Demand
  between : ℕ → ℕ → Demand
  multiple : ℕ → Demand
  not_all : ℕ → Demand
  all : ℕ → Demand
  terminated : Spot → Demand
  terminated_at : ℕ → Demand
  terminated_before : ℕ → Spot → Demand
  points : List ℕ → Demand
  refers : ℕ → Spot → Demand
  ends : Demand
  distances : Spot → Demand
  includes : List Among → List ℕ → Demand

abbrev pub demand_by : DemandData → Demand
demand_by demands.Differs = differs
demand_by (demands.DiffersWith other) = differs_with (spot_by other)
demand_by (demands.DiffersIn kind) = differs_in kind
demand_by (demands.Apart group last) = apart (spot_by group) (spot_by last)
demand_by (demands.Disjoint size) = disjoint (spot_by size)
demand_by (demands.AtMost other) = at_most (spot_by other)
demand_by (demands.Addresses size) = addresses (spot_by size)
demand_by (demands.Blocks last size) = blocks (spot_by last) size
demand_by (demands.Inside number size) = inside (spot_by number) size
demand_by (demands.Counts start size) = counts start size
demand_by (demands.Agrees other) = agrees (spot_by other)
demand_by (demands.Needed other) = needed (spot_by other)
demand_by (demands.Needs other) = needs (spot_by other)
demand_by (demands.Between from to) = between from to
demand_by (demands.Multiple unit) = multiple unit
demand_by (demands.NotAll mask) = not_all mask
demand_by (demands.All mask) = all mask
demand_by (demands.Terminated size) = terminated (spot_by size)
demand_by (demands.TerminatedAt start) = terminated_at start
demand_by (demands.TerminatedBefore start end) = terminated_before start (spot_by end)
demand_by (demands.Points types) = points types.now
demand_by (demands.Refers kind spot) = refers kind (spot_by spot)
demand_by demands.Ends = ends
demand_by (demands.Distances first) = distances (spot_by first)
demand_by (demands.Includes parts what) = includes parts.now what.now

-- In tables of this signature, the field at a spot of each of these parts is as demanded by a section.
pub record Relation : Type 0 where
  pub table : List ℕ
  pub among : Among
  pub spot : Spot
  pub demand : Demand
  pub section : List ℕ

abbrev pub relation_by : RelationData → Relation
relation_by row = record {
  table = row.table.now;
  among = row.among;
  spot = spot_by row.spot;
  demand = demand_by row.demand;
  section = row.section.now;
}
