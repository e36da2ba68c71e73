-- The graph of the structures of a table in the language of graphviz.
use Rattle.std.specs.Prelude.{ℕ, List, [], ◌∷◌, ◌++◌, Option, Some, None, codes}
use Rattle.std.specs.Fmt.{decimal}
use Rattle.std.specs.List.{flat_map, slice_get}
use Rattle.acpi_base.specs.declared.walk.Walk.{Walk}
use Rattle.acpi_tree.specs.Graph.{nodes_of, edges_of, targets_of}
use Rattle.acpi_tree.specs.Tree.{node_text}
use Rattle.acpi_tree.specs.declared.graph.Edge.{Edge}
use Rattle.acpi_tree.specs.declared.graph.Node.{Node}

-- the name of a structure
abbrev pub name : Node → List ℕ
name node = codes "  n" ++ decimal node.at

abbrev pub label : Node → List ℕ
label node = codes " [label=\"" ++ node_text node ++ codes "\"];\n"

-- a structure that another one refers to
abbrev pub arrow_to : Node → Option Node → List ℕ
arrow_to node None = []
arrow_to node (Some other) = name node ++ (codes " -> n" ++ decimal other.at ++ codes ";\n")

abbrev pub arrow : List Node → Node → ℕ → List ℕ
arrow nodes node index = arrow_to node (slice_get nodes index)

-- a structure, and those to which it refers
abbrev pub node_dot : List Node → List Edge → Node → List ℕ
node_dot nodes edges node =
    name node ++ label node ++ flat_map (arrow nodes node) (targets_of nodes edges (Some node))

abbrev pub graph_dot : List Node → List Edge → List ℕ
graph_dot nodes edges = codes "digraph {\n" ++ flat_map (node_dot nodes edges) nodes ++ codes "}\n"

-- the graph of a table
abbrev pub dot_text : Walk → List ℕ → List ℕ
dot_text walk table = graph_dot (nodes_of walk table) (edges_of walk table)
