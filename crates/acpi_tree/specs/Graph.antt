-- The structures of a table, and which of them refer to which others.
use Rattle.std.specs.Prelude.{ℕ, ◌+◌, ◌==◌, suc, nat_le, nat_lt, ◌&&◌, ◌||◌, Bool, true, false, if◌then◌else◌}
use Rattle.std.specs.Prelude.{List, [], ◌∷◌, length, map, take, Option, Some, None}
use Rattle.std.specs.List.{flat_map, slice_get}
use Rattle.std.specs.Str.{bytes_eq}
use Rattle.acpi_base.specs.declared.walk.Place.{Place}
use Rattle.acpi_base.specs.declared.walk.Walk.{Walk}
use Rattle.acpi_rules.specs.Demand.{Demand, points, Relation}
use Rattle.acpi_rules.specs.Item.{Item, items}
use Rattle.acpi_rules.specs.Reference.{start_spot}
use Rattle.acpi_rules.specs.Rules.{number_of}
use Rattle.acpi_rules.specs.Standard.{referred}
use Rattle.acpi_rules.specs.declared.demand.Among.{Among}
use Rattle.acpi_rules.specs.declared.demand.Of.TheVariants.{Each}
use Rattle.acpi_rules.specs.declared.demand.When.TheVariants.{Always}
use Rattle.acpi_text.specs.Form.{number_at}
use Rattle.acpi_tree.specs.declared.graph.Edge.{Edge}
use Rattle.acpi_tree.specs.declared.graph.Node.{Node}

-- ---- the structures

-- each structure of a table
abbrev pub each : Among
each = record { of = Each; when = Always }

abbrev pub node_of : Place → Item → Node
node_of kind item = record { at = item.field.offset; size = length item.bytes; kind = number_at kind item.bytes }

-- the structures of a table that has a walk, in the order of their offsets
abbrev pub nodes_of : Walk → List ℕ → List Node
nodes_of walk table = map (node_of walk.kind) (items each start_spot (Some walk) table)

-- ---- the references: numbers in fields of structures that are offsets of others

abbrev pub edge_of : Item → Edge
edge_of item = record { at = item.field.offset; to = number_of item.field }

-- whether a rule says that a field has the offset of a structure
abbrev pub is_pointing : Demand → Bool
is_pointing (points types) = true
is_pointing demand = false

-- those of a rule
abbrev pub rule_edges : Walk → List ℕ → Relation → List Edge
rule_edges walk table row =
    if bytes_eq row.table (take 4 table) && is_pointing row.demand
    then map edge_of (items row.among row.spot (Some walk) table) else []

-- those of a table, in the order of the rules on references
abbrev pub edges_of : Walk → List ℕ → List Edge
edges_of walk table = flat_map (rule_edges walk table) referred

-- ---- who refers to whom, by the places of structures in their list

-- whether a reference is in a field of a structure
abbrev pub is_in : Node → Edge → Bool
is_in node edge = nat_le node.at edge.at && nat_lt edge.at (node.at + node.size)

-- the structure at an offset, if there is one, where the first of these has the place k
abbrev pub place_from : ℕ → ℕ → List Node → List ℕ
place_from k at [] = []
place_from k at (node ∷ nodes) = if node.at == at then k ∷ [] else place_from (suc k) at nodes

-- the structures to which references in a structure lead
abbrev pub edge_targets : List Node → Node → Edge → List ℕ
edge_targets nodes node edge = if is_in node edge then place_from 0 edge.to nodes else []

abbrev pub targets_of : List Node → List Edge → Option Node → List ℕ
targets_of nodes edges None = []
targets_of nodes edges (Some node) = flat_map (edge_targets nodes node) edges

-- those of the structure at a place
abbrev pub targets : List Node → List Edge → ℕ → List ℕ
targets nodes edges index = targets_of nodes edges (slice_get nodes index)

-- whether a reference leads to an offset
abbrev pub is_target : List Edge → ℕ → Bool
is_target [] at = false
is_target (edge ∷ edges) at = (edge.to == at) || is_target edges at
