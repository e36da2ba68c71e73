-- What laws say.
use Rattle.std.specs.Prelude.{◌≡◌, ◌<◌, ℕ, suc, ◌==◌, ◌&&◌, if◌then◌else◌, List, [], ◌∷◌, length}
use Rattle.acpi_tree.specs.Tree.{tree_lines}
use Rattle.acpi_tree.specs.declared.graph.Edge.{Edge}
use Rattle.acpi_tree.specs.declared.graph.Node.{Node}
use Rattle.acpi_tree.specs.declared.tree.Line.{Line}

-- how often lines show the structure at a place in full
abbrev pub times : List Line → ℕ → ℕ
times [] index = 0
times (one ∷ lines) index = if one.full && (one.index == index) then suc (times lines index) else times lines index

-- Each structure of a graph is in its tree exactly once in full.
abbrev pub TreesAreWhole : Type 0
TreesAreWhole =
    (nodes : List Node) (edges : List Edge) (index : ℕ) → index < length nodes → times (tree_lines nodes edges) index ≡ 1
