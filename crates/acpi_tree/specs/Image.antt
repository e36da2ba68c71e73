-- The tables of an image, by the pointers that lead to them, as a tree and as a graph.
use Rattle.std.specs.Prelude.{ℕ, ◌-◌, ◌/◌, Bool, true, false, if◌then◌else◌, List, [], ◌∷◌, ◌++◌, map, take, drop}
use Rattle.std.specs.Prelude.{Option, Some, None, codes}
use Rattle.std.specs.Char.{is_ascii_alphanumeric}
use Rattle.std.specs.Fmt.{decimal, digits}
use Rattle.std.specs.List.{flat_map}
use Rattle.std.specs.Str.{bytes_eq}
use Rattle.acpi_layout.specs.declared.located.Located.{Located}
use Rattle.acpi_tree.specs.Spaces.{spaces}
use Rattle.acpi_tree.specs.declared.image.Branch.{Branch}

-- ---- who points to whom

-- how many tables an RSDT (ACPI 6.5, 5.2.7) or an XSDT (5.2.8) lists: after its header it has 4 or 8 bytes for each
abbrev pub entry_count : Located → ℕ
entry_count listing = (listing.length - 36) / (if bytes_eq listing.signature (codes "RSDT") then 4 else 8)

-- a table, how many lead to it, and the address of the one that has its address
abbrev pub branch_at : ℕ → Option ℕ → Located → Branch
branch_at depth parent table = record { depth = depth; parent = parent; table = table }

-- one to which a FADT points (5.2.9)
abbrev pub below : Located → Located → Branch
below fadt table = branch_at 3 (Some fadt.address) table

-- One that the RSDT or the XSDT lists. The FADT points to further ones.
abbrev pub entry : Located → List Located → Located → List Branch
entry listing pointed table =
    branch_at 2 (Some listing.address) table
    ∷ (if bytes_eq table.signature (codes "FACP") then map (below table) pointed else [])

-- The RSDP, the RSDT or the XSDT to which it points (5.2.5.3), the tables that this lists, and after the FADT those to which it
-- points. The tables are in the order in which they are found.
abbrev pub branches_of : List Located → List Branch
branches_of (rsdp ∷ listing ∷ more) =
    branch_at 0 None rsdp
    ∷ branch_at 1 (Some rsdp.address) listing
    ∷ flat_map (entry listing (drop (entry_count listing) more)) (take (entry_count listing) more)
branches_of _ = []

-- ---- the tree

-- a byte of a signature as a letter or a digit, and otherwise an underscore
abbrev pub letter : ℕ → ℕ
letter c = if is_ascii_alphanumeric c then c else 95

-- the name of a table: its signature, and RSDP for an RSDP
abbrev pub title : List ℕ → List ℕ
title signature = if bytes_eq signature (codes "RSD ") then codes "RSDP" else map letter signature

abbrev pub address_text : ℕ → List ℕ
address_text address = codes "0x" ++ digits 16 false address

-- a line: the address of the table, its name and its length
abbrev pub branch_line : Branch → List ℕ
branch_line one =
    spaces one.depth
    ++ address_text one.table.address
    ++ codes " "
    ++ title one.table.signature
    ++ codes " length "
    ++ decimal one.table.length
    ++ codes "\n"

abbrev pub image_tree : List Located → List ℕ
image_tree tables = flat_map branch_line (branches_of tables)

-- ---- the graph, in the language of graphviz

abbrev pub branch_name : ℕ → List ℕ
branch_name address = codes "  t" ++ decimal address

abbrev pub branch_label : Located → List ℕ
branch_label table =
    codes " [label=\""
    ++ title table.signature
    ++ codes " "
    ++ address_text table.address
    ++ codes "\"];\n"

-- the arrow to a table from the one that has its address
abbrev pub arrow_from : Option ℕ → ℕ → List ℕ
arrow_from None address = []
arrow_from (Some parent) address = branch_name parent ++ codes " -> t" ++ decimal address ++ codes ";\n"

abbrev pub branch_dot : Branch → List ℕ
branch_dot one =
    branch_name one.table.address
    ++ branch_label one.table
    ++ arrow_from one.parent one.table.address

abbrev pub image_dot : List Located → List ℕ
image_dot tables = codes "digraph {\n" ++ flat_map branch_dot (branches_of tables) ++ codes "}\n"
