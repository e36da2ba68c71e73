-- The tree of the structures of a table: each is printed once in full, and below it those to which it refers.
use Rattle.std.specs.Prelude.{ℕ, zero, suc, ◌+◌, ◌==◌, nat_lt, ◌&&◌, ◌||◌, Bool, true, false, if◌then◌else◌}
use Rattle.std.specs.Prelude.{List, [], ◌∷◌, ◌++◌, length, Option, Some, None, codes}
use Rattle.std.specs.Fmt.{decimal}
use Rattle.std.specs.List.{flat_map, slice_get}
use Rattle.acpi_base.specs.declared.walk.Walk.{Walk}
use Rattle.acpi_rules.specs.Item.{Item}
use Rattle.acpi_tree.specs.Graph.{nodes_of, edges_of, targets, is_target}
use Rattle.acpi_tree.specs.Named.{named_in, name_lines}
use Rattle.acpi_tree.specs.Spaces.{spaces}
use Rattle.acpi_tree.specs.declared.graph.Edge.{Edge}
use Rattle.acpi_tree.specs.declared.graph.Node.{Node}
use Rattle.acpi_tree.specs.declared.tree.Line.{Line}

-- a line: how deep it is, the place of its structure, and whether this is shown in full
abbrev pub line : ℕ → ℕ → Bool → Line
line depth index full = record { depth = depth; index = index; full = full }

-- whether the structure at a place is shown in full by one of these lines
abbrev pub has_full : List Line → ℕ → Bool
has_full [] index = false
has_full (one ∷ lines) index = (one.full && (one.index == index)) || has_full lines index

-- what each of these places adds to lines, one after another
abbrev pub walk : (List Line → ℕ → List Line) → List Line → List ℕ → List Line
walk adds done [] = []
walk adds done (index ∷ more) = adds done index ++ walk adds (done ++ adds done index) more

-- A structure after these lines, up to n levels: a line that it was shown, or its line in full, and those to which it refers.
abbrev pub visit : List Node → List Edge → ℕ → ℕ → List Line → ℕ → List Line
visit nodes edges zero depth done index = []
visit nodes edges (suc n) depth done index =
    if has_full done index then line depth index false ∷ []
    else line depth index true
    ∷ walk (visit nodes edges n (depth + 1)) (done ++ line depth index true ∷ []) (targets nodes edges index)

-- how many levels there are at most: what is deeper is shown from the left margin on
abbrev pub levels : List Node → ℕ
levels nodes = if nat_lt (length nodes) 255 then length nodes else 255

-- the same at the left margin, unless it was shown
abbrev pub visit_new : List Node → List Edge → List Line → ℕ → List Line
visit_new nodes edges done index = if has_full done index then [] else visit nodes edges (levels nodes) 0 done index

-- the places of all structures, where the first has the place k
abbrev pub places_from : ℕ → List Node → List ℕ
places_from k [] = []
places_from k (node ∷ nodes) = k ∷ places_from (suc k) nodes

-- those to which none refers
abbrev pub roots_from : ℕ → List Edge → List Node → List ℕ
roots_from k edges [] = []
roots_from k edges (node ∷ nodes) = (if is_target edges node.at then [] else k ∷ []) ++ roots_from (suc k) edges nodes

-- first the structures to which none refers, and then what is left: those of cycles
abbrev pub tree_lines : List Node → List Edge → List Line
tree_lines nodes edges = walk (visit_new nodes edges) [] (roots_from 0 edges nodes ++ places_from 0 nodes)

-- ---- the text

-- a structure: its offset, its type and its size
abbrev pub size_text : Node → List ℕ
size_text node = codes " size " ++ decimal node.size

abbrev pub type_text : Node → List ℕ
type_text node = codes " type " ++ decimal node.kind

abbrev pub node_text : Node → List ℕ
node_text node = decimal node.at ++ type_text node ++ size_text node

abbrev pub shown : Bool → Node → List ℕ
shown true node = node_text node
shown false node = decimal node.at ++ codes " above"

-- the numbers in it that other tables define, if it is shown in full
abbrev pub names_of : List Item → ℕ → Bool → Node → List ℕ
names_of items depth true node = name_lines depth node items
names_of items depth false node = []

abbrev pub line_of : List Item → Line → Option Node → List ℕ
line_of items one None = []
line_of items one (Some node) =
    spaces one.depth ++ shown one.full node ++ codes "\n" ++ names_of items one.depth one.full node

abbrev pub line_text : List Item → List Node → Line → List ℕ
line_text items nodes one = line_of items one (slice_get nodes one.index)

abbrev pub lines_text : List Item → List Node → List Line → List ℕ
lines_text items nodes lines = flat_map (line_text items nodes) lines

-- the tree of a table
abbrev pub tree_text : Walk → List ℕ → List ℕ
tree_text walk table =
    lines_text (named_in table) (nodes_of walk table) (tree_lines (nodes_of walk table) (edges_of walk table))
