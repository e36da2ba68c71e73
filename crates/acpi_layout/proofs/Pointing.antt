-- Addresses, read out of the bytes of the tables that contain them.
use Rattle.std.proofs.Common.{◌≡◌, ℕ, ◌+◌, ◌*◌, ◌^◌, ◌<◌, ◌≤◌, List, [], ◌∷◌, ◌++◌, length, map, take, drop, get_or, refl, ap, ◌∙◌, arith, length-append, inl, zero, suc}
use Rattle.std.specs.Prelude.{sum, Option, Some, None}
use Rattle.std.proofs.Math.Seq.{drop-append-add}
use Rattle.std.proofs.lemmas.List.{take_at, get_or-map, length-map}
use Rattle.std.specs.List.{concat}
use Rattle.acpi_base.specs.declared.oem.Oem.{Oem}
use Rattle.acpi_base.specs.Bytes.{le, put, carried, complement, field_at}
use Rattle.acpi_base.specs.Fields.{fields_joined}
use Rattle.acpi_base.specs.Table.{IsTrueTable}
use Rattle.acpi_base.proofs.Bytes.{carried_le, length_le}
use Rattle.acpi_base.proofs.Ends.{drop_put}
use Rattle.acpi_core.specs.Listing.{IsListing, bytes_of}
use Rattle.acpi_core.specs.Offset.{offset_of, structure_at}
use Rattle.acpi_core.proofs.Offsets.{are_true, stand}
use Rattle.acpi_fixed.specs.declared.fadt.FADTBuilder.{FADTBuilder}
use Rattle.acpi_fixed.specs.Fadt.{fadt_bytes, header_fields, fadt_fields}
use Rattle.acpi_fixed.specs.Rsdp.{rsdp_bytes, rsdp_for}
use Rattle.acpi_layout.specs.Image.{control_bytes, control_address, pointed_fadt, listing}
use Rattle.acpi_layout.specs.Laws.{ImagesPoint, xsdt_address}
use Rattle.acpi_layout.proofs.Images.{size_listing}

-- bytes after a header of 36 bytes, whose field the checksum doesn't change
bytes_in_fadt : (p : FADTBuilder) (place w : ℕ) (b : List ℕ) → length (fields_joined (header_fields p)) ≡ 36 → place + w ≤ 240
    → take w (drop place (fields_joined (fadt_fields p))) ≡ b → take w (drop (36 + place) (fadt_bytes p)) ≡ b
bytes_in_fadt p place w b header within is =
    let head = fields_joined (header_fields p) in
    let rest = fields_joined (fadt_fields p) in
    let k = complement (sum (put 9 (0 ∷ []) (head ++ rest))) ∷ [] in
    let size : length rest ≡ 240 = refl in
    let past : 36 + place ≡ length head + place = omega (arith, header) in
    ap (take w) (drop_put (36 + place) 9 k (head ++ rest) (omega arith) (omega (arith, length-append head rest, header, size, within)))
    ∙ ap (λ n. take w (drop n (head ++ rest))) past
    ∙ ap (take w) (drop-append-add head rest place) ∙ is

pub number_in_fadt : (p : FADTBuilder) (place w v : ℕ) → length (fields_joined (header_fields p)) ≡ 36 → place + w ≤ 240 → take w (drop place (fields_joined (fadt_fields p))) ≡ le w v
    → v < 256 ^ w → field_at (36 + place) w (fadt_bytes p) ≡ v
number_in_fadt p place w v header within is small = ap carried (bytes_in_fadt p place w (le w v) header within is) ∙ carried_le w v small

-- the Flags
pub flags_in_fadt : (p : FADTBuilder) → length (fields_joined (header_fields p)) ≡ 36 → field_at 112 4 (fadt_bytes p) ≡ carried (le 4 p.flags)
flags_in_fadt p header = ap carried (bytes_in_fadt p 76 4 (le 4 p.flags) header (omega arith) refl)

-- ---- the XSDT's entries

pub is_listing : (base : ℕ) (oem : Oem) (places : List ℕ) → length oem.id ≡ 6 → length oem.table_id ≡ 8 → 36 + 8 * length places < 2 ^ 32 → IsListing (listing base oem places)
is_listing base oem places six eight fits = record {
  signature = refl;
  id = six;
  table_id = eight;
  width = inl refl;
  limit = omega arith;
  counted = inl refl;
  fits = omega (arith, size_listing base oem places, fits);
}

pub is_true_listing : (base : ℕ) (oem : Oem) (places : List ℕ) → length oem.id ≡ 6 → length oem.table_id ≡ 8 → 36 + 8 * length places < 2 ^ 32 → IsTrueTable (bytes_of (listing base oem places))
is_true_listing base oem places six eight fits = (are_true (listing base oem places) (is_listing base oem places six eight fits)).0

offset_is : (base : ℕ) (places : List ℕ) (i : ℕ) → i ≤ length places → length (concat (take i (map (λ place. le 8 (base + place)) places))) ≡ 8 * i
offset_is base places zero h = refl
offset_is base [] (suc i) h = absurd (omega (arith, h))
offset_is base (p ∷ places) (suc i) h = omega (arith, offset_is base places i (omega (arith, h)))

pub entry : (base : ℕ) (oem : Oem) (places : List ℕ) (i : ℕ) → IsListing (listing base oem places) → i < length places → base + get_or places i 0 < 2 ^ 64
    → field_at (36 + 8 * i) 8 (bytes_of (listing base oem places)) ≡ base + get_or places i 0
entry base oem places i is inside small =
    let t = listing base oem places in
    let f : ℕ → List ℕ = λ place. le 8 (base + place) in
    let v = base + get_or places i 0 in
    let many : i < length t.structures = omega (arith, length-map places f, inside) in
    let there = stand t i is many in
    let at : 36 + 8 * i ≡ offset_of t i = omega (arith, offset_is base places i (omega (arith, inside))) in
    let bytes : structure_at t i ≡ le 8 v = get_or-map f places i 0 [] inside in
    ap (λ n. field_at n 8 (bytes_of t)) at
    ∙ ap (λ b. carried (take 8 b)) (there.1 ∙ ap (λ b. b ++ there.0) bytes)
    ∙ ap carried (take_at (le 8 v) there.0 8 (length_le 8 v)) ∙ carried_le 8 v small

-- ---- the RSDP

pub in_pointer : (id : List ℕ) (a : ℕ) → length id ≡ 6 → a < 2 ^ 64 → field_at 24 8 (rsdp_bytes (rsdp_for id a)) ≡ a
in_pointer id a six small =
    let past : 15 ≡ length id + 9 = omega (arith, six) in
    ap (λ n. carried (take 8 (drop n (drop 9 (rsdp_bytes (rsdp_for id a)))))) past
    ∙ ap (λ b. carried (take 8 b)) (drop-append-add id _ 9) ∙ carried_le 8 a small

-- the FACS's address, or 0, fits its field
address_fits : (base : ℕ) (facs : Option (List ℕ)) → base + length (control_bytes facs) < 2 ^ 64 → control_address base facs < 2 ^ 64
address_fits base None fits = omega arith
address_fits base (Some facs) fits = omega (arith, fits)

pub point : ImagesPoint
point base oem facs fadt laid six eight header fits xsdt dsdt =
    let p = pointed_fadt base facs fadt in
    let is = is_listing base oem laid.places six eight fits in
    record {
      firmware_ctrl = number_in_fadt p 0 4 0 header (omega arith) refl (omega arith);
      dsdt = number_in_fadt p 4 4 0 header (omega arith) refl (omega arith);
      x_firmware_ctrl = number_in_fadt p 96 8 (control_address base facs) header (omega arith) refl (address_fits base facs dsdt);
      x_dsdt = number_in_fadt p 104 8 (base + length (control_bytes facs)) header (omega arith) refl dsdt;
      entries = λ i inside small. entry base oem laid.places i is inside small;
      xsdt = in_pointer oem.id (xsdt_address base laid) six xsdt;
      xsdt_is_true = is_true_listing base oem laid.places six eight fits;
    }
