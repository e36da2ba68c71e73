-- The findings of rules on several tables of a machine: `defined` and `below`.
use Rattle.std.specs.Prelude.{ℕ, ◌==◌, max, nat_lt, ◌||◌, not, Bool, false, if◌then◌else◌}
use Rattle.std.specs.Prelude.{List, [], ◌∷◌, ◌++◌, length, map, take, Option, None}
use Rattle.std.specs.List.{flat_map}
use Rattle.std.specs.Str.{bytes_eq}
use Rattle.acpi_base.specs.Bytes.{carried, field_at}
use Rattle.acpi_base.specs.FurtherWalk.{table_walk_of}
use Rattle.acpi_base.specs.declared.walk.Walk.{Walk}
use Rattle.acpi_rules.specs.Demand.{Spot}
use Rattle.acpi_rules.specs.Finding.{Finding}
use Rattle.acpi_rules.specs.Item.{Item, bytes_in, items}
use Rattle.acpi_rules.specs.Link.{Column, Wanted, Link, one_of, below, index}
use Rattle.acpi_rules.specs.Reference.{contains}
use Rattle.acpi_rules.specs.Related.{relates}
use Rattle.acpi_rules.specs.declared.finding.Rule.TheVariants.{Defined, Below}

-- ---- the numbers of a column

-- the walk of a table, by its signature
abbrev pub walk_of : List ℕ → Option Walk
walk_of table = if nat_lt (length table) 4 then None else table_walk_of (field_at 0 4 table)

-- whether a table has the signature of a column
abbrev pub is_of : Column → List ℕ → Bool
is_of column table = bytes_eq column.table (take 4 table)

-- the parts of a table that a column has
abbrev pub column_items : Column → List ℕ → List Item
column_items column table = if is_of column table then items column.among column.low (walk_of table) table else []

-- the number of a part: that of its field, with the bytes of another one above it
abbrev pub whole_number : Spot → Item → ℕ
whole_number high item = carried (take 8 (item.field.bytes ++ bytes_in high item.bytes))

abbrev pub column_numbers : Column → List ℕ → List ℕ
column_numbers column table = map (whole_number column.high) (column_items column table)

-- those of all tables of a machine
abbrev pub all_numbers : List (List ℕ) → Column → List ℕ
all_numbers tables column = flat_map (column_numbers column) tables

-- how many parts a table has that is one of the column's
abbrev pub column_count : Column → List ℕ → List ℕ
column_count column table = if is_of column table then length (column_items column table) ∷ [] else []

abbrev pub all_counts : List (List ℕ) → Column → List ℕ
all_counts tables column = flat_map (column_count column) tables

-- ---- what tables of a machine allow

-- the numbers that are allowed, or those of which the greatest is the limit
abbrev pub numbers_for : Wanted → List (List ℕ) → List ℕ
numbers_for (one_of columns) tables = flat_map (all_numbers tables) columns
numbers_for (below column) tables = all_numbers tables column
numbers_for (index column) tables = all_counts tables column

-- whether there is a table with the signature of a column
abbrev pub has_table : List (List ℕ) → Column → Bool
has_table [] column = false
has_table (table ∷ tables) column = is_of column table || has_table tables column

abbrev pub has_any : List (List ℕ) → List Column → Bool
has_any tables [] = false
has_any tables (column ∷ columns) = has_table tables column || has_any tables columns

-- whether tables of a machine have what a rule speaks of
abbrev pub speaks : Wanted → List (List ℕ) → List ℕ → Bool
speaks (one_of columns) tables numbers = has_any tables columns
speaks wanted tables numbers = not (length numbers == 0)

abbrev pub greatest : List ℕ → ℕ
greatest [] = 0
greatest (n ∷ numbers) = max n (greatest numbers)

-- ---- findings

-- A number is one of these.
abbrev pub defined_findings : Link → List ℕ → Item → List Finding
defined_findings link numbers item =
    if contains numbers (whole_number link.column.high item) then []
    else relates Defined link.section 0 0 link.other item.field

-- A number is below a limit.
abbrev pub below_findings : Link → ℕ → Item → List Finding
below_findings link limit item =
    if nat_lt (whole_number link.column.high item) limit then []
    else relates Below link.section limit (whole_number link.column.high item) link.other item.field

-- what parts of a table break of a rule, where tables of the machine allow these numbers
abbrev pub parts_findings : Wanted → Link → List ℕ → List Item → List Finding
parts_findings (one_of columns) link numbers parts = flat_map (defined_findings link numbers) parts
parts_findings wanted link numbers parts = flat_map (below_findings link (greatest numbers)) parts

abbrev pub spoken_findings : Bool → Link → List ℕ → List Item → List Finding
spoken_findings spoken link numbers parts = if spoken then parts_findings link.wanted link numbers parts else []

-- what a table with the signature of a rule breaks of it
abbrev pub own_findings : List (List ℕ) → List ℕ → Link → List Finding
own_findings tables table link =
    let numbers = numbers_for link.wanted tables in
    spoken_findings (speaks link.wanted tables numbers) link numbers (column_items link.column table)

-- what a table breaks of a rule, among the tables of its machine, in the order of its fields
abbrev pub link_findings : List (List ℕ) → List ℕ → Link → List Finding
link_findings tables table link = if is_of link.column table then own_findings tables table link else []

-- what a table breaks of rules, in the order of the rules
abbrev pub links_findings : List Link → List (List ℕ) → List ℕ → List Finding
links_findings rows tables table = flat_map (link_findings tables table) rows
