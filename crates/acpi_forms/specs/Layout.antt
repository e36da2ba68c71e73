-- Which layout a table has, and the names of its form. Three signatures have two layouts.
use Rattle.std.specs.Prelude.{◌≡◌, ℕ, nat_le, ◌==◌, ◌&&◌, ◌||◌, not, Bool, false, if◌then◌else◌, List, [], ◌++◌, drop, codes}
use Rattle.std.specs.Prelude.{Option, Some, None}
use Rattle.acpi_base.specs.FurtherWalk.{table_walk_of}
use Rattle.acpi_base.specs.Walk.{named}
use Rattle.acpi_base.specs.declared.walk.Place.TheVariants.{Byte, Word, DWord}
use Rattle.acpi_base.specs.declared.walk.Walk.{Walk}
use Rattle.acpi_forms.specs.FurtherNames.{earlier_pmtt_names, specified_rimt_names}
use Rattle.acpi_forms.specs.Named.{Named, names_of, earlier_gtdt_names}
use Rattle.acpi_forms.specs.Walks.{earlier_gtdt_walk}
use Rattle.acpi_forms.specs.declared.layout.Layout.{Layout}
use Rattle.acpi_forms.specs.declared.layout.Layout.TheVariants.{Usual, SpecifiedRimt, EarlierPmtt, EarlierGtdt}
use Rattle.acpi_make.specs.Fault.{Fault, next}
use Rattle.acpi_make.specs.Signature.{has_line, heading_at}
use Rattle.acpi_make.specs.Text.{if_some}
use Rattle.acpi_make.specs.declared.item.Item.{Item}
use Rattle.acpi_nodes.specs.Rimt.{iommu_bytes, root_complex_bytes, platform_bytes}
use Rattle.acpi_nodes.specs.declared.rimt.Iommu.{Iommu}
use Rattle.acpi_nodes.specs.declared.rimt.PcieRootComplex.{PcieRootComplex}
use Rattle.acpi_nodes.specs.declared.rimt.Platform.{Platform}
use Rattle.acpi_text.specs.Form.{number_at}

-- ---- nodes of a RIMT of the RISC-V specification

-- the wires begin at 40, and not at 32, which the profile has at 30
abbrev pub is_specified_iommu : List ℕ → Bool
is_specified_iommu node =
    not (number_at (Word 30) node == 32) && nat_le 40 (number_at (Word 2) node) && number_at (Word 38) node == 40

-- the mappings begin at 20, and not at 16, which the profile has at 12
abbrev pub is_specified_root_complex : List ℕ → Bool
is_specified_root_complex node =
    not (number_at (Word 12) node == 16) && nat_le 20 (number_at (Word 2) node) && number_at (Word 16) node == 20

-- the ID is at 6, and the bytes at 4 are reserved, where the profile has the ID at 4, and the bytes at 6 are reserved
abbrev pub is_specified_platform : List ℕ → Bool
is_specified_platform node =
    not (number_at (Word 6) node == 0) && nat_le 12 (number_at (Word 2) node) && number_at (Word 4) node == 0

abbrev pub is_specified_node : List ℕ → Bool
is_specified_node node =
    if number_at (Byte 0) node == 0 then is_specified_iommu node
    else (if number_at (Byte 0) node == 1 then is_specified_root_complex node
    else (if number_at (Byte 0) node == 2 then is_specified_platform node
    else false))

-- Nodes of this project's profile are none of these, and neither is the end of a table without nodes.
pub record WrittenAreUsual : Type 0 where
  pub iommus : (i : Iommu) (rest : List ℕ) → is_specified_node (iommu_bytes i ++ rest) ≡ false
  pub root_complexes : (c : PcieRootComplex) (rest : List ℕ) → is_specified_node (root_complex_bytes c ++ rest) ≡ false
  pub platforms : (p : Platform) (rest : List ℕ) → is_specified_node (platform_bytes p ++ rest) ≡ false
  pub nothing : is_specified_node [] ≡ false

-- ---- the layout of a table

-- a GTDT of revision 1 or 2; a template has the revision 0
abbrev pub is_earlier_gtdt : ℕ → Bool
is_earlier_gtdt revision = revision == 1 || revision == 2

-- of bytes: the first node of a RIMT, whose offset is at 40, and the revision of a PMTT or a GTDT
abbrev pub layout_in : ℕ → List ℕ → Layout
layout_in signature bytes =
    if signature == named (codes "RIMT") && is_specified_node (drop (number_at (DWord 40) bytes) bytes) then SpecifiedRimt
    else (if signature == named (codes "PMTT") && number_at (Byte 8) bytes == 1 then EarlierPmtt
    else (if signature == named (codes "GTDT") && is_earlier_gtdt (number_at (Byte 8) bytes) then EarlierGtdt
    else Usual))

-- of a text: a field of the table itself that only one of the two layouts has
abbrev pub layout_of_text : ℕ → List ℕ → List Item → Layout
layout_of_text signature text parts =
    if signature == named (codes "RIMT") && has_line (codes "Offset to RIMT Node Array") text parts then SpecifiedRimt
    else (if signature == named (codes "PMTT") && not (has_line (codes "Number of Memory Devices") text parts) then EarlierPmtt
    else (if signature == named (codes "GTDT") && not (has_line (codes "Virtual EL2 Timer GSIV") text parts) then EarlierGtdt
    else Usual))

-- ---- the names of a layout

abbrev pub names_as : Layout → ℕ → Named
names_as Usual signature = names_of signature
names_as SpecifiedRimt signature = specified_rimt_names
names_as EarlierPmtt signature = earlier_pmtt_names
names_as EarlierGtdt signature = earlier_gtdt_names

-- those of a table of a signature
unfoldable pub names_in : ℕ → List ℕ → Named
names_in signature bytes = names_as (layout_in signature bytes) signature

-- ---- the walk of a layout

-- the timers of a GTDT before revision 3 may begin where a later one has another field
abbrev pub walk_as : Layout → ℕ → Option Walk
walk_as Usual signature = table_walk_of signature
walk_as SpecifiedRimt signature = table_walk_of signature
walk_as EarlierPmtt signature = table_walk_of signature
walk_as EarlierGtdt signature = Some earlier_gtdt_walk

-- that of a table of a signature
unfoldable pub walk_in : ℕ → List ℕ → Option Walk
walk_in signature bytes = walk_as (layout_in signature bytes) signature

-- ---- the layout of a table that was made of a text

-- That of its bytes. A RIMT of the specification has the layout of its text, since not each first node says it.
abbrev pub layout_made : Layout → Layout → Layout
layout_made SpecifiedRimt found = SpecifiedRimt
layout_made Usual found = found
layout_made EarlierPmtt found = found
layout_made EarlierGtdt found = found

-- this layout, if it isn't that of the text
abbrev pub another_layout : Layout → Layout → Option Layout
another_layout SpecifiedRimt found = None
another_layout Usual Usual = None
another_layout Usual SpecifiedRimt = Some SpecifiedRimt
another_layout Usual EarlierPmtt = Some EarlierPmtt
another_layout Usual EarlierGtdt = Some EarlierGtdt
another_layout EarlierPmtt Usual = Some Usual
another_layout EarlierPmtt SpecifiedRimt = Some SpecifiedRimt
another_layout EarlierPmtt EarlierPmtt = None
another_layout EarlierPmtt EarlierGtdt = Some EarlierGtdt
another_layout EarlierGtdt Usual = Some Usual
another_layout EarlierGtdt SpecifiedRimt = Some SpecifiedRimt
another_layout EarlierGtdt EarlierPmtt = Some EarlierPmtt
another_layout EarlierGtdt EarlierGtdt = None

-- what has to stand in place of a line that this layout of a signature doesn't have
abbrev pub line_words : Layout → ℕ → List ℕ
line_words Usual signature =
    if signature == named (codes "GTDT") then codes "a line of a GTDT of revision 3 or later"
    else codes "a line of a PMTT whose revision isn't 1"
line_words SpecifiedRimt signature = codes "a line of a RIMT whose first node is one of the RISC-V specification"
line_words EarlierPmtt signature = codes "a line of a PMTT of revision 1"
line_words EarlierGtdt signature = codes "a line of a GTDT before revision 3"

-- ---- the heading of a table

-- the other layout of a signature that has two with two names
abbrev pub other_layout : ℕ → Layout → Option Layout
other_layout signature Usual =
    if signature == named (codes "RIMT") then Some SpecifiedRimt
    else (if signature == named (codes "PMTT") then Some EarlierPmtt
    else None)
other_layout signature SpecifiedRimt = Some Usual
other_layout signature EarlierPmtt = Some Usual
other_layout signature EarlierGtdt = None

-- the fault of a heading that is the name of the other layout
unfoldable pub heading_fault : Layout → ℕ → List ℕ → List Item → Option Fault
heading_fault layout signature text parts =
    if_some (other_layout signature layout) (λ other.
    if_some (heading_at (names_as other signature).name text parts) (λ range.
    Some (next range.0 range.1 (names_as layout signature).name 0)))
