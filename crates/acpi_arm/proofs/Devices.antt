-- Tables of devices, and their devices.
use Rattle.std.proofs.Common.{rules, ◌≡◌, ℕ, ◌<◌, ◌^◌, ◌⊎◌, List, [], ◌∷◌, ◌++◌, length, take, drop, refl, sym, ap, subst, ◌∙◌, arith, append_assoc, length-append, ⊎_elim, inl, false}
use Rattle.std.specs.Prelude.{Result, Ok, Err, None, Some}
use Rattle.std.specs.List.{concat}
use Rattle.std.proofs.lemmas.List.{append-nil, drop_at}
use Rattle.acpi_base.specs.Bytes.{le, carried, field_at}
use Rattle.acpi_base.specs.Walk.{IsPiece, ArePieces, Walks}
use Rattle.acpi_base.specs.declared.further_walk.FurtherWalk.{FurtherWalk}
use Rattle.acpi_base.specs.FurtherWalk.{dbg2_walk, full_walk_of, further_walk_of, FollowsBy, AreStructuresOf, IsSoundFurther}
use Rattle.acpi_base.specs.declared.error.Error.{Error}
use Rattle.acpi_base.specs.declared.oem.Oem.{Oem}
use Rattle.acpi_base.specs.declared.walk.Place.TheVariants.{Word}
use Rattle.acpi_base.specs.declared.walk.Sizes.TheVariants.{ToldAt}
use Rattle.acpi_base.proofs.Bytes.{carried_le}
use Rattle.acpi_base.proofs.Walks.{pieces_push}
use Rattle.acpi_base.proofs.FurtherWalks.{walks_follow, one_list_of_structures}
use Rattle.acpi_core.specs.Addition.{Counted, Adds}
use Rattle.acpi_core.specs.Listing.{Listing, IsListing, bytes_of, field_limit}
use Rattle.acpi_core.specs.Structure.{structure_of}
use Rattle.acpi_core.specs.Walk.{IsWalked}
use Rattle.acpi_core.proofs.Kept.{listing_on, accepted_end}
use Rattle.acpi_core.proofs.Offsets.{are_true, parts, places, signature_told}
use Rattle.acpi_core.proofs.Parts.{word_told}
use Rattle.acpi_core.proofs.Structures.{is_within_a_word, structure_piece}
use Rattle.acpi_arm.specs.Dbg2.{Device, dbg2, KeepsDevices, device_head, device_bytes, device_size}

-- ---- devices

pub size_of_device : (d : Device) → length (device_bytes d) ≡ device_size d
size_of_device d =
    let named = length-append d.name (0 ∷ d.oem_data) in
    let sized = length-append d.sizes (d.name ++ (0 ∷ d.oem_data)) in
    let addressed = length-append d.addresses (d.sizes ++ (d.name ++ (0 ∷ d.oem_data))) in
    omega (arith, addressed, sized, named)

pub device_piece : (d : Device) → (structure_of (device_bytes d)).end ≡ None → IsPiece (ToldAt (Word 1)) (structure_of (device_bytes d)).front
device_piece d = structure_piece (ToldAt (Word 1)) (device_bytes d) (λ fits.
    let size = size_of_device d in
    let few = is_within_a_word (length (device_bytes d)) fits in
    (omega (arith, size), word_told (device_size d) (omega (arith, size, few)) ∙ sym size))

-- the parts of a device, as they are written
pub parts_joined : (d : Device) (h a s n o : List ℕ) → h ≡ device_head d → a ≡ d.addresses → s ≡ d.sizes → n ≡ d.name → o ≡ d.oem_data
    → h ++ (a ++ (s ++ (n ++ (0 ∷ (o ++ []))))) ≡ device_bytes d
parts_joined d h a s n o head addresses sizes name oem_data =
    rw (head, addresses, sizes, name, oem_data)
    (ap (λ x. device_head d ++ (d.addresses ++ (d.sizes ++ (d.name ++ (0 ∷ x))))) (append-nil d.oem_data))

-- ---- what a table keeps

fixed_on : {T : Type 0} (r : Result T Error) (old new : Counted) (d : Device) → record old.table { structures = [] } ≡ dbg2 old.table.oem
    → Adds r old (structure_of (device_bytes d)) new → record new.table { structures = [] } ≡ dbg2 new.table.oem
fixed_on (Ok u) old new d is adds = rw adds.ok is
fixed_on (Err e) old new d is adds = rw adds.err is

pieces_on : {T : Type 0} (r : Result T Error) (old new : Counted) (d : Device) → ArePieces (ToldAt (Word 1)) old.table.structures
    → Adds r old (structure_of (device_bytes d)) new → ArePieces (ToldAt (Word 1)) new.table.structures
pieces_on (Ok u) old new d all adds =
    let o = structure_of (device_bytes d) in
    rw adds.ok (pieces_push (ToldAt (Word 1)) old.table.structures o.front all (device_piece d (accepted_end old.table o.end (length o.front) adds.accepted)))
pieces_on (Err e) old new d all adds = rw adds.err all

pub keeps_device : {T : Type 0} (r : Result T Error) (old new : Counted) (d : Device) → KeepsDevices old.table
    → Adds r old (structure_of (device_bytes d)) new → KeepsDevices new.table
keeps_device r old new d kept adds = record {
  is = listing_on r old new (structure_of (device_bytes d)) kept.is adds;
  fixed = fixed_on r old new d kept.fixed adds;
  pieces = pieces_on r old new d kept.pieces adds;
}

-- ---- the walk

-- a table of these devices
abbrev pub listed : Oem → List (List ℕ) → Listing
listed oem devices = record (dbg2 oem) { structures = devices }

counted_small : (width n : ℕ) → width ≡ 4 → (width ≡ 0) ⊎ (n < field_limit width) → n < 256 ^ 4
counted_small width n is h =
    ⊎_elim (λ e. absurd (omega (arith, e, is))) (λ small. let below : n < field_limit 4 = subst (λ (w : ℕ). n < field_limit w) is small in omega (arith, below)) h

walks : (oem : Oem) (devices : List (List ℕ)) → IsListing (listed oem devices) → ArePieces (ToldAt (Word 1)) devices
    → Walks dbg2_walk (bytes_of (listed oem devices)) devices
walks oem devices is each =
    let t = listed oem devices in
    let p = parts t is in
    let n = length devices in
    let s = concat devices in
    let behind_front : bytes_of t ≡ p.front ++ (le 4 44 ++ (le 4 n ++ s)) = p.is in
    let behind_start : bytes_of t ≡ (p.front ++ le 4 44) ++ (le 4 n ++ s) = p.is ∙ sym (append_assoc p.front (le 4 44) (le 4 n ++ s)) in
    let behind_count : bytes_of t ≡ (p.front ++ (le 4 44 ++ le 4 n)) ++ s = p.is ∙ sym (append_assoc p.front (le 4 44 ++ le 4 n) s) in
    let l1 : length (p.front ++ le 4 44) ≡ 40 = omega (arith, length-append p.front (le 4 44), p.long) in
    let l2 : length (p.front ++ (le 4 44 ++ le 4 n)) ≡ 44 = omega (arith, length-append p.front (le 4 44 ++ le 4 n), p.long) in
    record {
      reaches = omega (arith, ap length behind_count, length-append (p.front ++ (le 4 44 ++ le 4 n)) s, l2);
      joined = ap (drop 44) behind_count ∙ drop_at (p.front ++ (le 4 44 ++ le 4 n)) s 44 l2;
      each = each;
      counted = λ some.
          ap (λ b. carried (take 4 b)) (ap (drop 40) behind_start ∙ drop_at (p.front ++ le 4 44) (le 4 n ++ s) 40 l1)
          ∙ carried_le 4 n (counted_small 4 n refl is.counted);
      started = λ some. ap (λ b. carried (take 4 b)) (ap (drop 36) behind_front ∙ drop_at p.front (le 4 44 ++ (le 4 n ++ s)) 36 p.long);
    }

listed_is_walked : (oem : Oem) (devices : List (List ℕ)) → IsListing (listed oem devices) → ArePieces (ToldAt (Word 1)) devices
    → IsWalked false dbg2_walk (listed oem devices)
listed_is_walked oem devices is each =
    let t = listed oem devices in
    let f : FurtherWalk = record { walk = dbg2_walk; least = 44 } in
    let sound : IsSoundFurther f = search rules in
    let follows : FollowsBy (Some f) (bytes_of t) devices = inl (walks_follow f (bytes_of t) devices sound (walks oem devices is each)) in
    let none : full_walk_of (field_at 0 4 (bytes_of t)) ≡ None = ap full_walk_of (signature_told t is) in
    let by : further_walk_of (field_at 0 4 (bytes_of t)) ≡ Some f = ap further_walk_of (signature_told t is) in
    let found : AreStructuresOf (bytes_of t) devices = rw (none, by) follows in
    record {
      is_true = (are_true t is).0;
      walks = found;
      only = λ pieces other. one_list_of_structures (bytes_of t) pieces devices other found;
      offsets = λ i h. places 44 devices i h;
    }

pub is_walked : (t : Listing) → KeepsDevices t → IsWalked false dbg2_walk t
is_walked t kept =
    let same : t ≡ listed t.oem t.structures = ap {A = Listing} (λ l. record l { structures = t.structures }) kept.fixed in
    rw same (listed_is_walked t.oem t.structures (rw (← same) kept.is) kept.pieces)
