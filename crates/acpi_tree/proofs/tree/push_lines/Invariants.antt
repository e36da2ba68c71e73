use Rattle.std.proofs.Common.{◌≡◌, ◌++◌, map, drop}
use Rattle.acpi_rules.specs.Item.{item_by}
use Rattle.acpi_tree.specs.Tree.{lines_text}
use Rattle.acpi_tree.proofs.tree.push_lines.Given as goal

abbrev pub invariant-lines : goal.invariant-lines
invariant-lines l =
    l.text.items ++ lines_text (map item_by l.items) l.nodes (drop l.line-index l.lines)
    ≡ l.initial.text.items ++ lines_text (map item_by l.items) l.nodes l.lines
