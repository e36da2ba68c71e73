-- The numbers in a table by which it names parts of its machine, such as proximity domains and processors.
use Rattle.std.specs.Prelude.{ℕ, ◌+◌, nat_le, nat_lt, ◌&&◌, ◌==◌, Bool, if◌then◌else◌, List, [], ◌++◌, codes}
use Rattle.std.specs.Fmt.{decimal}
use Rattle.std.specs.List.{flat_map}
use Rattle.acpi_rules.specs.Across.{column_items}
use Rattle.acpi_rules.specs.Item.{Item}
use Rattle.acpi_rules.specs.Link.{Column, Link}
use Rattle.acpi_rules.specs.Machine.{affinities, named}
use Rattle.acpi_rules.specs.Rules.{number_of}
use Rattle.acpi_tree.specs.Spaces.{spaces}
use Rattle.acpi_tree.specs.declared.graph.Node.{Node}

-- the column of the fields that have the high bytes of a column's numbers
abbrev pub high_of : Column → Column
high_of column = record column { low = column.high }

-- these fields, if there are any
abbrev pub high_items : List ℕ → Column → List Item
high_items table column = if column.high.width == 0 then [] else column_items (high_of column) table

-- the numbers of a rule: the fields that have them or their low bytes, and then those that have their high bytes
abbrev pub link_items : List ℕ → Link → List Item
link_items table link = column_items link.column table ++ high_items table link.column

-- those of a table, in the order of the rules
abbrev pub named_in : List ℕ → List Item
named_in table = flat_map (link_items table) affinities ++ flat_map (link_items table) named

-- whether a field is in a structure
abbrev pub is_inside : Node → Item → Bool
is_inside node item = nat_le node.at item.field.offset && nat_lt item.field.offset (node.at + node.size)

-- the line of a number, two spaces further in than its structure: the name of the field, and the number
abbrev pub name_line : ℕ → Item → List ℕ
name_line depth item =
    spaces depth
    ++ codes "  "
    ++ item.field.name
    ++ codes " "
    ++ decimal (number_of item.field)
    ++ codes "\n"

abbrev pub name_line_in : ℕ → Node → Item → List ℕ
name_line_in depth node item = if is_inside node item then name_line depth item else []

abbrev pub name_lines : ℕ → Node → List Item → List ℕ
name_lines depth node items = flat_map (name_line_in depth node) items
