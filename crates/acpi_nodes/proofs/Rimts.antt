-- Devices of a RIMT, their sizes and their parts.
use Rattle.std.proofs.Common.{◌≡◌, ◌+◌, ◌*◌, List, [], ◌∷◌, length, length-append, arith, refl, sym, ◌∙◌}
use Rattle.std.specs.Prelude.{string_bytes, None}
use Rattle.acpi_base.specs.Walk.{IsPiece}
use Rattle.acpi_base.specs.declared.walk.Place.TheVariants.{Word}
use Rattle.acpi_base.specs.declared.walk.Sizes.TheVariants.{ToldAt}
use Rattle.acpi_core.specs.Structure.{structure_of}
use Rattle.acpi_core.proofs.Parts.{word_told}
use Rattle.acpi_core.proofs.Structures.{is_within_a_word, structure_piece}
use Rattle.acpi_nodes.specs.declared.rimt.InterruptWire.{InterruptWire}
use Rattle.acpi_nodes.specs.declared.rimt.Iommu.{Iommu}
use Rattle.acpi_nodes.specs.declared.rimt.IdMapping.{IdMapping}
use Rattle.acpi_nodes.specs.declared.rimt.PcieRootComplex.{PcieRootComplex}
use Rattle.acpi_nodes.specs.declared.rimt.Platform.{Platform}
use Rattle.acpi_nodes.specs.Entries.{entries_of, records_joined}
use Rattle.acpi_nodes.specs.Rimt.{wire_fields, iommu_bytes, mapping_fields, root_complex_bytes, platform_bytes, mappings_at}

wires_size : (ws : List InterruptWire) → length (records_joined wire_fields ws) ≡ 8 * length ws
wires_size [] = refl
wires_size (w ∷ ws) = let rest = wires_size ws in omega (arith, rest)

mappings_size : (ms : List IdMapping) → length (records_joined mapping_fields ms) ≡ 20 * length ms
mappings_size [] = refl
mappings_size (m ∷ ms) = let rest = mappings_size ms in omega (arith, rest)

pub iommu_size : (i : Iommu) → length (iommu_bytes i) ≡ 32 + 8 * length (entries_of i.wires)
iommu_size i = omega (arith, wires_size (entries_of i.wires))

pub root_complex_size : (c : PcieRootComplex) → length (root_complex_bytes c) ≡ 16 + 20 * length (entries_of c.mappings)
root_complex_size c = omega (arith, mappings_size (entries_of c.mappings))

pub platform_size : (p : Platform) → length (platform_bytes p) ≡ mappings_at p + 20 * length (entries_of p.mappings)
platform_size p =
    let behind = length-append (string_bytes p.name) (0 ∷ records_joined mapping_fields (entries_of p.mappings)) in
    omega (arith, behind, mappings_size (entries_of p.mappings))

pub iommu_piece : (i : Iommu) → (structure_of (iommu_bytes i)).end ≡ None → IsPiece (ToldAt (Word 2)) (structure_of (iommu_bytes i)).front
iommu_piece i = structure_piece (ToldAt (Word 2)) (iommu_bytes i) (λ fits.
    let size = iommu_size i in
    let few = is_within_a_word (length (iommu_bytes i)) fits in
    (omega (arith, size), word_told (32 + 8 * length (entries_of i.wires)) (omega (arith, size, few)) ∙ sym size))

pub root_complex_piece : (c : PcieRootComplex) → (structure_of (root_complex_bytes c)).end ≡ None → IsPiece (ToldAt (Word 2)) (structure_of (root_complex_bytes c)).front
root_complex_piece c = structure_piece (ToldAt (Word 2)) (root_complex_bytes c) (λ fits.
    let size = root_complex_size c in
    let few = is_within_a_word (length (root_complex_bytes c)) fits in
    (omega (arith, size), word_told (16 + 20 * length (entries_of c.mappings)) (omega (arith, size, few)) ∙ sym size))

pub platform_piece : (p : Platform) → (structure_of (platform_bytes p)).end ≡ None → IsPiece (ToldAt (Word 2)) (structure_of (platform_bytes p)).front
platform_piece p = structure_piece (ToldAt (Word 2)) (platform_bytes p) (λ fits.
    let size = platform_size p in
    let few = is_within_a_word (length (platform_bytes p)) fits in
    (omega (arith, size), word_told (mappings_at p + 20 * length (entries_of p.mappings)) (omega (arith, size, few)) ∙ sym size))
