-- The rules on two parts of a table that have something in common: `unique`, `overlap` and `disjoint`.
use Rattle.std.specs.Prelude.{ℕ, ◌+◌, nat_le, nat_lt, ◌&&◌, Bool, false, if◌then◌else◌, List, [], ◌∷◌, ◌++◌, Option, Some, None}
use Rattle.std.specs.Str.{bytes_eq}
use Rattle.acpi_rules.specs.Demand.{Spot, Demand, differs, differs_with, apart, disjoint}
use Rattle.acpi_rules.specs.Finding.{Finding}
use Rattle.acpi_rules.specs.Item.{Item, bytes_in, number_in}
use Rattle.acpi_rules.specs.Related.{relates, unique_findings}
use Rattle.acpi_rules.specs.Rules.{number_of}
use Rattle.acpi_rules.specs.declared.finding.Rule.TheVariants.{Overlap, Disjoint}

-- two parts have the same bytes in the field of which a rule speaks, and in another one
abbrev pub matches : Spot → Item → Item → Bool
matches other a b =
    bytes_eq a.field.bytes b.field.bytes && bytes_eq (bytes_in other a.bytes) (bytes_in other b.bytes)

-- two parts have the same bytes in a field, and ranges that have a number in common
abbrev pub overlap : Spot → Spot → Item → Item → Bool
overlap group last a b =
    bytes_eq (bytes_in group a.bytes) (bytes_in group b.bytes)
    && nat_le (number_of a.field) (number_in last b.bytes)
    && nat_le (number_of b.field) (number_in last a.bytes)

-- whether the range of a part, as long as a field says, isn't empty, and ends after the first address of that of another
abbrev pub reaches : Spot → Item → Item → Bool
reaches size one other =
    nat_lt 0 (number_in size one.bytes) && nat_lt (number_of other.field) (number_of one.field + number_in size one.bytes)

-- whether two parts break a demand; two ranges have an address in common if each isn't empty, and ends after the other begins
abbrev pub clash : Demand → Item → Item → Bool
clash differs a b = bytes_eq a.field.bytes b.field.bytes
clash (differs_with other) a b = matches other a b
clash (apart group last) a b = overlap group last a b
clash (disjoint size) a b = reaches size a b && reaches size b a
clash demand a b = false

-- the offset of the field of the first part with which one clashes
abbrev pub first_clash : Demand → Item → List Item → Option ℕ
first_clash demand one [] = None
first_clash demand one (item ∷ items) = if clash demand one item then Some item.field.offset else first_clash demand one items

-- A part clashes with one at an offset.
abbrev pub clash_findings : Demand → List ℕ → Item → Option ℕ → List Finding
clash_findings differs section item (Some at) = unique_findings section at item.field
clash_findings (differs_with other) section item (Some at) = unique_findings section at item.field
clash_findings (apart group last) section item (Some at) = relates Overlap section at 0 last.name item.field
clash_findings (disjoint size) section item (Some at) = relates Disjoint section at 0 size.name item.field
clash_findings demand section item before = []

-- No part clashes with one before it: the parts before, and those that come.
abbrev pub apart_findings : Demand → List ℕ → List Item → List Item → List Finding
apart_findings demand section before [] = []
apart_findings demand section before (item ∷ items) =
    clash_findings demand section item (first_clash demand item before)
    ++ apart_findings demand section (before ++ item ∷ []) items
