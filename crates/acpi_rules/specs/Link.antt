-- What rules on several tables of a machine demand, as data.
use Rattle.std.specs.Prelude.{ℕ, List, map}
use Rattle.acpi_rules.specs.Demand.{Spot, spot_by}
use Rattle.acpi_rules.specs.declared.demand.Among.{Among}
use Rattle.acpi_rules.specs.declared.link.Column.{Column as ColumnData}
use Rattle.acpi_rules.specs.declared.link.Link.{Link as LinkData}
use Rattle.acpi_rules.specs.declared.link.Wanted.{Wanted as WantedData}
use Rattle.acpi_rules.specs.declared.link.Wanted.TheVariants as wanteds

-- A number in each of some parts of the tables of a signature: the field that has it, or its low bytes, and the one that has its
-- high bytes, whose width is 0 if there are none.
pub record Column : Type 0 where
  pub table : List ℕ
  pub among : Among
  pub low : Spot
  pub high : Spot

abbrev pub column_by : ColumnData → Column
column_by c = record { table = c.table.now; among = c.among; low = spot_by c.low; high = spot_by c.high }

-- What a rule demands of a number:
-- - one_of: it is a number of one of these columns, if there is a table with the signature of one of them;
-- - below: it is below the greatest number of this column, if there is one;
-- - index: it is below the number of parts of this column, of the table that has most, if there is one.
pub data Wanted : Type 0 where
  one_of : List Column → Wanted
  below : Column → Wanted
  index : Column → Wanted

abbrev pub wanted_by : WantedData → Wanted
wanted_by (wanteds.OneOf columns) = one_of (map column_by columns.now)
wanted_by (wanteds.Below column) = below (column_by column)
wanted_by (wanteds.Index column) = index (column_by column)

-- The numbers of a column are as demanded by a section. In words, the numbers that are allowed are the other ones.
pub record Link : Type 0 where
  pub column : Column
  pub wanted : Wanted
  pub other : List ℕ
  pub section : List ℕ

abbrev pub link_by : LinkData → Link
link_by row = record {
  column = column_by row.column;
  wanted = wanted_by row.wanted;
  other = row.other.now;
  section = row.section.now;
}
