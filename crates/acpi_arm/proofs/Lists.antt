-- Lists in the bytes of structures.
use Rattle.std.proofs.Common.{◌≡◌, ℕ, suc, ◌+◌, ◌-◌, ◌^◌, ◌<◌, ◌≤◌, List, [], ◌∷◌, ◌++◌, length, take, drop, refl, sym, ap, subst, ◌∙◌, arith, append_assoc, length-append}
use Rattle.std.specs.Prelude.{string_bytes}
use Rattle.std.proofs.lemmas.List.{append-nil, take_at, drop_at}
use Rattle.std.proofs.lemmas.Bool.Decides.{nat_tests}
use Rattle.acpi_base.specs.Bytes.{carried, le, zeros, field_at}
use Rattle.acpi_base.proofs.Bytes.{carried_le}
use Rattle.acpi_core.specs.Offset.{StandIn}
use Rattle.acpi_arm.specs.Dbg2.{sizes_at, name_at, oem_data_at, device_head, device_bytes}
use Rattle.acpi_arm.specs.Gtdt.{gt_block_head, gt_block_bytes}
use Rattle.acpi_arm.specs.IortNodes.{name_end, component_start, component_head, component_bytes, its_group_head, its_group_bytes, root_complex_head, earlier_root_complex_head}
use Rattle.acpi_arm.specs.IortNodes.{pmcg_head, reserved_memory_head, reserved_memory_bytes}
use Rattle.acpi_arm.specs.IortSmmus.{monitors_at, smmu_mappings_at, smmu_head, smmu_bytes, smmu_v3_head}
use Rattle.acpi_arm.specs.Lists.{HasList, TimersAreRead, DevicesAreRead, ListsAreRead}
use Rattle.acpi_arm.specs.Offsets.{offset_if}
use Rattle.acpi_arm.specs.declared.iort.components.NamedComponent.{NamedComponent}
use Rattle.acpi_arm.specs.declared.iort.regions.ReservedMemory.{ReservedMemory}
use Rattle.acpi_arm.specs.declared.iort.smmus.Smmu.{Smmu}
use Rattle.acpi_arm.proofs.Devices.{size_of_device}
use Rattle.acpi_arm.proofs.Iorts.{component_long, length-zeros, reserved_memory_long, smmu_long}

-- what stands after a front
stands_after : (bytes front list rest : List ℕ) (at : ℕ) → bytes ≡ front ++ (list ++ rest) → length front ≡ at → StandIn bytes at list
stands_after bytes front list rest at is here =
    ap (take (length list)) (ap (drop at) is ∙ drop_at front (list ++ rest) at here) ∙ take_at list rest (length list) refl

-- the same at the end
stands_last : (bytes front list : List ℕ) (at : ℕ) → bytes ≡ front ++ list → length front ≡ at → StandIn bytes at list
stands_last bytes front list at is here = stands_after bytes front list [] at (is ∙ ap (λ l. front ++ l) (sym (append-nil list))) here

-- the same at the offset that was read
stands_read : (bytes list : List ℕ) (read at : ℕ) → read ≡ at → StandIn bytes at list → StandIn bytes read list
stands_read bytes list read at is stands = rw is stands

offset_some : (count offset : ℕ) → 1 ≤ count → offset_if count offset ≡ offset
offset_some count offset some = grind (arith, nat_tests, some)

-- the offset of a list that isn't empty, as its field of w bytes contains it
offset_read : (w count offset : ℕ) → 1 ≤ count → offset < 256 ^ w → carried (le w (offset_if count offset)) ≡ offset
offset_read w count offset some small =
    let is = offset_some count offset some in
    carried_le w (offset_if count offset) (subst (λ n. n < 256 ^ w) (sym is) small) ∙ is

pub timers : TimersAreRead
timers b few = record {
  counted = carried_le 4 b.timers.count few;
  stands = λ some. stands_last (gt_block_bytes b) (gt_block_head b) b.timers.bytes 20 refl refl;
}

-- ---- devices

pub devices : DevicesAreRead
devices = record {
  addresses = λ d small few. record {
    counted = carried_le 1 d.count few;
    stands = λ some. stands_after (device_bytes d) (device_head d) d.addresses (d.sizes ++ (d.name ++ (0 ∷ d.oem_data))) 22 refl refl;
  };
  sizes = λ d small few. record {
    counted = carried_le 1 d.count few;
    stands = λ some.
        let bytes = device_bytes d in
        let front = device_head d ++ d.addresses in
        let rest = d.name ++ (0 ∷ d.oem_data) in
        let here : length front ≡ sizes_at d = length-append (device_head d) d.addresses in
        stands_read bytes d.sizes (field_at 20 2 bytes) (sizes_at d) (carried_le 2 (sizes_at d) (omega (arith, small, size_of_device d)))
        (stands_after bytes front d.sizes rest (sizes_at d) (sym (append_assoc (device_head d) d.addresses (d.sizes ++ rest))) here);
  };
  names = λ d small. record {
    counted = carried_le 2 (length d.name + 1) (omega (arith, small, size_of_device d));
    stands = λ some.
        let bytes = device_bytes d in
        let head = device_head d in
        let front = (head ++ d.addresses) ++ d.sizes in
        let named : d.name ++ (0 ∷ d.oem_data) ≡ (d.name ++ 0 ∷ []) ++ d.oem_data = sym (append_assoc d.name (0 ∷ []) d.oem_data) in
        let is : bytes ≡ front ++ ((d.name ++ 0 ∷ []) ++ d.oem_data) =
        sym (append_assoc head d.addresses (d.sizes ++ (d.name ++ (0 ∷ d.oem_data)))) ∙ sym (append_assoc (head ++ d.addresses) d.sizes (d.name ++ (0 ∷ d.oem_data))) ∙ ap (λ l. front ++ l) named in
        let here : length front ≡ name_at d = omega (arith, length-append (head ++ d.addresses) d.sizes, length-append head d.addresses) in
        stands_read bytes (d.name ++ 0 ∷ []) (field_at 6 2 bytes) (name_at d) (carried_le 2 (name_at d) (omega (arith, small, size_of_device d)))
        (stands_after bytes front (d.name ++ 0 ∷ []) d.oem_data (name_at d) is here);
  };
  oem_data = λ d small. record {
    counted = carried_le 2 (length d.oem_data) (omega (arith, small, size_of_device d));
    stands = λ some.
        let bytes = device_bytes d in
        let head = device_head d in
        let front = ((head ++ d.addresses) ++ d.sizes) ++ (d.name ++ 0 ∷ []) in
        let named : d.name ++ (0 ∷ d.oem_data) ≡ (d.name ++ 0 ∷ []) ++ d.oem_data = sym (append_assoc d.name (0 ∷ []) d.oem_data) in
        let is : bytes ≡ front ++ d.oem_data =
        sym (append_assoc head d.addresses (d.sizes ++ (d.name ++ (0 ∷ d.oem_data)))) ∙ sym (append_assoc (head ++ d.addresses) d.sizes (d.name ++ (0 ∷ d.oem_data)))
        ∙ ap (λ l. ((head ++ d.addresses) ++ d.sizes) ++ l) named ∙ sym (append_assoc ((head ++ d.addresses) ++ d.sizes) (d.name ++ 0 ∷ []) d.oem_data) in
        let here : length front ≡ oem_data_at d =
        omega (arith, length-append ((head ++ d.addresses) ++ d.sizes) (d.name ++ 0 ∷ []), length-append (head ++ d.addresses) d.sizes, length-append head d.addresses, length-append d.name (0 ∷ [])) in
        stands_read bytes d.oem_data (field_at 10 2 bytes) (oem_data_at d) (offset_read 2 (length d.oem_data) (oem_data_at d) some (omega (arith, small, size_of_device d)))
        (stands_last bytes front d.oem_data (oem_data_at d) is here);
  };
}

-- ---- nodes

-- a list of mappings after a head of fixed size
after_head : (head list : List ℕ) (count at : ℕ) → length head ≡ at → at < 2 ^ 16 → 1 ≤ count
    → StandIn (head ++ list) (carried (le 4 (offset_if count at))) list
after_head head list count at here small some =
    stands_read (head ++ list) list (carried (le 4 (offset_if count at))) at (offset_read 4 count at some (omega (arith, small))) (stands_last (head ++ list) head list at refl here)

zeros_front : (k m : ℕ) → k ≡ suc m → zeros k ≡ 0 ∷ zeros m
zeros_front k m is = rw is refl

-- the name of a device, with the zero after it
named : (c : NamedComponent) → StandIn (component_bytes c) 29 (string_bytes c.name ++ 0 ∷ [])
named c =
    let name = string_bytes c.name in
    let k = name_end (length name) in
    let maps = c.mappings.bytes in
    let one : k ≡ suc (k - 1) = omega arith in
    let is : name ++ (zeros k ++ maps) ≡ (name ++ 0 ∷ []) ++ (zeros (k - 1) ++ maps) =
    ap (λ z. name ++ (z ++ maps)) (zeros_front k (k - 1) one) ∙ sym (append_assoc name (0 ∷ []) (zeros (k - 1) ++ maps)) in
    stands_after (component_bytes c) (component_head c) (name ++ 0 ∷ []) (zeros (k - 1) ++ maps) 29 (ap (λ l. component_head c ++ l) is) refl

component : (c : NamedComponent) → length (component_bytes c) < 2 ^ 16 → c.mappings.count < 2 ^ 32 → HasList (component_bytes c) 8 4 c.mappings.count 12 4 c.mappings.bytes
component c small few =
    let name = string_bytes c.name in
    let filled = zeros (name_end (length name)) in
    let maps = c.mappings.bytes in
    let front = component_head c ++ (name ++ filled) in
    let is : component_bytes c ≡ front ++ maps = ap (λ l. component_head c ++ l) (sym (append_assoc name filled maps)) ∙ sym (append_assoc (component_head c) (name ++ filled) maps) in
    let here : length front ≡ component_start c =
    omega (arith, length-append (component_head c) (name ++ filled), length-append name filled, length-zeros (name_end (length name))) in
    record {
      counted = carried_le 4 c.mappings.count few;
      stands = λ some. stands_read (component_bytes c) maps (field_at 12 4 (component_bytes c)) (component_start c) (offset_read 4 c.mappings.count (component_start c) some (omega (arith, small, component_long c)))
          (stands_last (component_bytes c) front maps (component_start c) is here);
    }

contexts : (s : Smmu) → s.contexts.count < 2 ^ 32 → HasList (smmu_bytes s) 44 4 s.contexts.count 48 4 s.contexts.bytes
contexts s few = record {
  counted = carried_le 4 s.contexts.count few;
  stands = λ some. stands_read (smmu_bytes s) s.contexts.bytes (field_at 48 4 (smmu_bytes s)) 76 (offset_read 4 s.contexts.count 76 some (omega arith))
      (stands_after (smmu_bytes s) (smmu_head s) s.contexts.bytes (s.monitors.bytes ++ s.mappings.bytes) 76 refl refl);
}

monitors : (s : Smmu) → length (smmu_bytes s) < 2 ^ 16 → s.monitors.count < 2 ^ 32 → HasList (smmu_bytes s) 52 4 s.monitors.count 56 4 s.monitors.bytes
monitors s small few =
    let front = smmu_head s ++ s.contexts.bytes in
    let is : smmu_bytes s ≡ front ++ (s.monitors.bytes ++ s.mappings.bytes) = sym (append_assoc (smmu_head s) s.contexts.bytes (s.monitors.bytes ++ s.mappings.bytes)) in
    let here : length front ≡ monitors_at s = length-append (smmu_head s) s.contexts.bytes in
    record {
      counted = carried_le 4 s.monitors.count few;
      stands = λ some. stands_read (smmu_bytes s) s.monitors.bytes (field_at 56 4 (smmu_bytes s)) (monitors_at s) (offset_read 4 s.monitors.count (monitors_at s) some (omega (arith, small, smmu_long s)))
          (stands_after (smmu_bytes s) front s.monitors.bytes s.mappings.bytes (monitors_at s) is here);
    }

smmu_mappings : (s : Smmu) → length (smmu_bytes s) < 2 ^ 16 → s.mappings.count < 2 ^ 32 → HasList (smmu_bytes s) 8 4 s.mappings.count 12 4 s.mappings.bytes
smmu_mappings s small few =
    let front = (smmu_head s ++ s.contexts.bytes) ++ s.monitors.bytes in
    let is : smmu_bytes s ≡ front ++ s.mappings.bytes =
    sym (append_assoc (smmu_head s) s.contexts.bytes (s.monitors.bytes ++ s.mappings.bytes)) ∙ sym (append_assoc (smmu_head s ++ s.contexts.bytes) s.monitors.bytes s.mappings.bytes) in
    let here : length front ≡ smmu_mappings_at s = omega (arith, length-append (smmu_head s ++ s.contexts.bytes) s.monitors.bytes, length-append (smmu_head s) s.contexts.bytes) in
    record {
      counted = carried_le 4 s.mappings.count few;
      stands = λ some. stands_read (smmu_bytes s) s.mappings.bytes (field_at 12 4 (smmu_bytes s)) (smmu_mappings_at s) (offset_read 4 s.mappings.count (smmu_mappings_at s) some (omega (arith, small, smmu_long s)))
          (stands_last (smmu_bytes s) front s.mappings.bytes (smmu_mappings_at s) is here);
    }

ranges : (m : ReservedMemory) → m.ranges.count < 2 ^ 32 → HasList (reserved_memory_bytes m) 20 4 m.ranges.count 24 4 m.ranges.bytes
ranges m few = record {
  counted = carried_le 4 m.ranges.count few;
  stands = λ some. stands_read (reserved_memory_bytes m) m.ranges.bytes (field_at 24 4 (reserved_memory_bytes m)) 28 (offset_read 4 m.ranges.count 28 some (omega arith))
      (stands_after (reserved_memory_bytes m) (reserved_memory_head m) m.ranges.bytes m.mappings.bytes 28 refl refl);
}

memory_mappings : (m : ReservedMemory) → length (reserved_memory_bytes m) < 2 ^ 16 → m.mappings.count < 2 ^ 32
    → HasList (reserved_memory_bytes m) 8 4 m.mappings.count 12 4 m.mappings.bytes
memory_mappings m small few =
    let front = reserved_memory_head m ++ m.ranges.bytes in
    let at = 28 + length m.ranges.bytes in
    let is : reserved_memory_bytes m ≡ front ++ m.mappings.bytes = sym (append_assoc (reserved_memory_head m) m.ranges.bytes m.mappings.bytes) in
    let here : length front ≡ at = length-append (reserved_memory_head m) m.ranges.bytes in
    record {
      counted = carried_le 4 m.mappings.count few;
      stands = λ some. stands_read (reserved_memory_bytes m) m.mappings.bytes (field_at 12 4 (reserved_memory_bytes m)) at (offset_read 4 m.mappings.count at some (omega (arith, small, reserved_memory_long m)))
          (stands_last (reserved_memory_bytes m) front m.mappings.bytes at is here);
    }

pub nodes : ListsAreRead
nodes = record {
  services = λ g few. (carried_le 4 g.services.count few, stands_last (its_group_bytes g) (its_group_head g) g.services.bytes 20 refl refl);
  names = named;
  component_mappings = component;
  root_complex_mappings = λ c few. record {
    counted = carried_le 4 c.mappings.count few;
    stands = after_head (root_complex_head c) c.mappings.bytes c.mappings.count 40 refl (omega arith);
  };
  earlier_root_complex_mappings = λ c few. record {
    counted = carried_le 4 c.root_complex.mappings.count few;
    stands = after_head (earlier_root_complex_head c) c.root_complex.mappings.bytes c.root_complex.mappings.count 36 refl (omega arith);
  };
  contexts = λ s small few. contexts s few;
  monitors = monitors;
  smmu_mappings = smmu_mappings;
  smmu_v3_mappings = λ s few. record {
    counted = carried_le 4 s.mappings.count few;
    stands = after_head (smmu_v3_head s) s.mappings.bytes s.mappings.count 68 refl (omega arith);
  };
  pmcg_mappings = λ p few. record {
    counted = carried_le 4 p.mappings.count few;
    stands = after_head (pmcg_head p) p.mappings.bytes p.mappings.count 40 refl (omega arith);
  };
  ranges = λ m small few. ranges m few;
  memory_mappings = memory_mappings;
}
