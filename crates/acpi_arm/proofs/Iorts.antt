-- Nodes of an IORT, their sizes and their parts.
use Rattle.std.proofs.Common.{◌≡◌, ℕ, ◌≤◌, List, [], ◌∷◌, ◌++◌, length, take, length-append, ap, arith, refl, sym, ◌∙◌, zero, suc}
use Rattle.std.specs.Prelude.{string_bytes, None}
use Rattle.std.proofs.lemmas.List.{append-nil}
use Rattle.acpi_base.specs.Bytes.{zeros}
use Rattle.acpi_base.specs.Walk.{IsPiece}
use Rattle.acpi_base.specs.declared.walk.Place.TheVariants.{Word}
use Rattle.acpi_base.specs.declared.walk.Sizes.TheVariants.{ToldAt}
use Rattle.acpi_core.specs.Structure.{structure_of}
use Rattle.acpi_core.proofs.Parts.{word_told}
use Rattle.acpi_core.proofs.Structures.{is_within_a_word, structure_piece}
use Rattle.acpi_arm.specs.IortNodes.{name_end, component_size, component_head, component_bytes, reserved_memory_size, reserved_memory_head, reserved_memory_bytes}
use Rattle.acpi_arm.specs.IortSmmus.{smmu_size, smmu_head, smmu_bytes}
use Rattle.acpi_arm.specs.declared.iort.components.NamedComponent.{NamedComponent}
use Rattle.acpi_arm.specs.declared.iort.regions.ReservedMemory.{ReservedMemory}
use Rattle.acpi_arm.specs.declared.iort.smmus.Smmu.{Smmu}

-- ---- sizes

pub length-zeros : (n : ℕ) → length (zeros n) ≡ n
length-zeros zero = refl
length-zeros (suc n) = ap suc (length-zeros n)

pub component_long : (c : NamedComponent) → length (component_bytes c) ≡ component_size c
component_long c =
    let name = string_bytes c.name in
    let rest = zeros (name_end (length name)) ++ c.mappings.bytes in
    let named = length-append name rest in
    let filled = length-append (zeros (name_end (length name))) c.mappings.bytes in
    omega (arith, named, filled, length-zeros (name_end (length name)))

pub smmu_long : (s : Smmu) → length (smmu_bytes s) ≡ smmu_size s
smmu_long s =
    let first = length-append s.contexts.bytes (s.monitors.bytes ++ s.mappings.bytes) in
    let second = length-append s.monitors.bytes s.mappings.bytes in
    omega (arith, first, second)

pub reserved_memory_long : (m : ReservedMemory) → length (reserved_memory_bytes m) ≡ reserved_memory_size m
reserved_memory_long m = let first = length-append m.ranges.bytes m.mappings.bytes in omega (arith, first)

-- ---- pieces

pub component_piece : (c : NamedComponent) → (structure_of (component_bytes c)).end ≡ None → IsPiece (ToldAt (Word 1)) (structure_of (component_bytes c)).front
component_piece c = structure_piece (ToldAt (Word 1)) (component_bytes c) (λ fits.
    let size = component_long c in
    let few = is_within_a_word (length (component_bytes c)) fits in
    (omega (arith, size), word_told (component_size c) (omega (arith, size, few)) ∙ sym size))

pub smmu_piece : (s : Smmu) → (structure_of (smmu_bytes s)).end ≡ None → IsPiece (ToldAt (Word 1)) (structure_of (smmu_bytes s)).front
smmu_piece s = structure_piece (ToldAt (Word 1)) (smmu_bytes s) (λ fits.
    let size = smmu_long s in
    let few = is_within_a_word (length (smmu_bytes s)) fits in
    (omega (arith, size), word_told (smmu_size s) (omega (arith, size, few)) ∙ sym size))

pub reserved_memory_piece : (m : ReservedMemory) → (structure_of (reserved_memory_bytes m)).end ≡ None → IsPiece (ToldAt (Word 1)) (structure_of (reserved_memory_bytes m)).front
reserved_memory_piece m = structure_piece (ToldAt (Word 1)) (reserved_memory_bytes m) (λ fits.
    let size = reserved_memory_long m in
    let few = is_within_a_word (length (reserved_memory_bytes m)) fits in
    (omega (arith, size), word_told (reserved_memory_size m) (omega (arith, size, few)) ∙ sym size))

-- ---- parts, as they are written

abbrev pub four_zeros : List ℕ
four_zeros = 0 ∷ 0 ∷ 0 ∷ 0 ∷ []

pub zeros_of_four : (n : ℕ) → n ≤ 4 → take n four_zeros ≡ zeros n
zeros_of_four zero small = refl
zeros_of_four (suc zero) small = refl
zeros_of_four (suc (suc zero)) small = refl
zeros_of_four (suc (suc (suc zero))) small = refl
zeros_of_four (suc (suc (suc (suc zero)))) small = refl
zeros_of_four (suc (suc (suc (suc (suc n))))) small = absurd (omega (arith, small))

pub smmu_joined : (s : Smmu) (h a b m : List ℕ) → h ≡ smmu_head s → a ≡ s.contexts.bytes → b ≡ s.monitors.bytes → m ≡ s.mappings.bytes
    → h ++ (a ++ (b ++ (m ++ []))) ≡ smmu_bytes s
smmu_joined s h a b m head contexts monitors mappings =
    rw (head, contexts, monitors, mappings)
    (ap (λ x. smmu_head s ++ (s.contexts.bytes ++ (s.monitors.bytes ++ x))) (append-nil s.mappings.bytes))

pub reserved_memory_joined : (n : ReservedMemory) (h a m : List ℕ) → h ≡ reserved_memory_head n → a ≡ n.ranges.bytes → m ≡ n.mappings.bytes
    → h ++ (a ++ (m ++ [])) ≡ reserved_memory_bytes n
reserved_memory_joined n h a m head ranges mappings =
    rw (head, ranges, mappings)
    (ap (λ x. reserved_memory_head n ++ (n.ranges.bytes ++ x)) (append-nil n.mappings.bytes))

pub component_joined : (c : NamedComponent) (h t z m : List ℕ) → h ≡ component_head c → t ≡ string_bytes c.name
    → z ≡ zeros (name_end (length (string_bytes c.name))) → m ≡ c.mappings.bytes → h ++ (t ++ (z ++ (m ++ []))) ≡ component_bytes c
component_joined c h t z m head text filled mappings =
    rw (head, text, filled, mappings)
    (ap (λ x. component_head c ++ (string_bytes c.name ++ (zeros (name_end (length (string_bytes c.name))) ++ x))) (append-nil c.mappings.bytes))
