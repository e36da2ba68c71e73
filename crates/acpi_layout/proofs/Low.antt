-- Images with an RSDT: what the steps of laying make.
use Rattle.std.proofs.Common.{◌≡◌, ℕ, ◌+◌, ◌*◌, ◌^◌, ◌<◌, ◌≤◌, List, [], ◌∷◌, ◌++◌, length, take, drop, get_or, true, Some, None, refl, ap, ◌∙◌, arith}
use Rattle.std.specs.Prelude.{codes, sum, Option}
use Rattle.std.proofs.lemmas.List.{take_more, map-append, length-take-le}
use Rattle.acpi_base.specs.declared.error.Error.{Error}
use Rattle.acpi_base.specs.declared.error.Error.TheVariants.{FieldWidth}
use Rattle.acpi_base.specs.declared.oem.Oem.{Oem}
use Rattle.acpi_base.specs.Bytes.{le, complement}
use Rattle.acpi_base.specs.Fields.{NamedField, byte, bytes, fields_joined}
use Rattle.acpi_base.specs.Object.{whole, Appended}
use Rattle.acpi_base.specs.Table.{with_checksum}
use Rattle.acpi_core.specs.Listing.{Listing, bytes_of, size_of, with_structure}
use Rattle.acpi_core.specs.Addition.{has_room, refusal_of}
use Rattle.acpi_fixed.specs.declared.fadt.FADTBuilder.{FADTBuilder}
use Rattle.acpi_fixed.specs.Fadt.{fadt_bytes, header_fields, legacy_fields, extended_fields}
use Rattle.acpi_fixed.specs.declared.rsdp.Rsdp0.{Rsdp0}
use Rattle.acpi_fixed.specs.Rsdp.{rsdp0_bytes, rsdp0_for}
use Rattle.acpi_layout.specs.Image.{padded, placed, control_bytes, control_address}
use Rattle.acpi_layout.specs.Rsdt.{pointing_low, low_listing, low_laid, with_rsdt, low_pointer}
use Rattle.acpi_layout.proofs.Images.{placed_is, accepted_room, refused_room, room_is, no_room_is}

-- ---- addresses in bytes

-- bytes of an FADT that points to addresses of these bytes
low_fadt_same : (a f d k : ℕ) (fadt : FADTBuilder) → le 4 a ≡ le 4 f → le 4 d ≡ le 4 k → fadt_bytes (pointing_low a d fadt) ≡ fadt_bytes (pointing_low f k fadt)
low_fadt_same a f d k fadt first second =
    let p = pointing_low f k fadt in
    let rest : List ℕ → List ℕ → List NamedField = λ x y. bytes "FIRMWARE_CTRL" 4 x ∷ bytes "DSDT" 4 y ∷ (drop 2 (legacy_fields p) ++ extended_fields p) in
    let all : List ℕ → List ℕ → List ℕ = λ x y. with_checksum (fields_joined (header_fields p) ++ fields_joined (rest x y)) in
    ap (λ (x : List ℕ). all x (le 4 d)) first ∙ ap (λ (y : List ℕ). all (le 4 f) y) second

-- the bytes of an RSDP, by those of the address
pointer_with : List ℕ → List ℕ → ℕ → List ℕ
pointer_with id q check = fields_joined
    (bytes "Signature" 8 (codes "RSD PTR ")
    ∷ byte "Checksum" check
    ∷ bytes "OEMID" 6 id
    ∷ byte "Revision" 0
    ∷ bytes "RsdtAddress" 4 q
    ∷ [])

summed_pointer : List ℕ → List ℕ → List ℕ
summed_pointer id q = pointer_with id q (complement (sum (pointer_with id q 0)))

pointer_same : (id : List ℕ) (d k : ℕ) → le 4 d ≡ le 4 k → rsdp0_bytes (rsdp0_for id d) ≡ rsdp0_bytes (rsdp0_for id k)
unfolding summed_pointer pointer_with
pointer_same id d k same = ap (summed_pointer id) same

-- ---- the RSDT

pub size_low : (base : ℕ) (oem : Oem) (places : List ℕ) → size_of (low_listing base oem places) ≡ 36 + 4 * length places
size_low base oem [] = refl
size_low base oem (p ∷ places) = omega (arith, size_low base oem places)

pub low_next : (base : ℕ) (oem : Oem) (places : List ℕ) (i : ℕ) (entry : List ℕ) (t new : Listing) → i < length places
    → t ≡ low_listing base oem (take i places) → entry ≡ le 4 (base + get_or places i 0) → new ≡ with_structure t entry → new ≡ low_listing base oem (take (i + 1) places)
low_next base oem places i entry t new inside before bytes grown =
    grown ∙ ap (λ (s : Listing). with_structure s entry) before ∙ ap (with_structure (low_listing base oem (take i places))) bytes
    ∙ rw (take_more places i 0 inside, map-append) refl

module _ (base : ℕ) (oem : Oem) (places : List ℕ) (i : ℕ) (inside : i < length places) (t : Listing) (is : t ≡ low_listing base oem (take i places)) where
  size_is : size_of (low_listing base oem (take i places)) ≡ 36 + 4 * i
  size_is = omega (arith, size_low base oem (take i places), length-take-le i places (omega arith))

  -- an entry was accepted, and the RSDT still fits
  pub low_fits : refusal_of t None 4 ≡ None → 36 + 4 * (i + 1) < 2 ^ 32
  low_fits accepted =
      let l = low_listing base oem (take i places) in
      let room : has_room l 4 ≡ true = accepted_room (has_room l 4) (rw is at accepted) in
      omega (arith, size_is, room_is (size_of l) 4 (2 ^ 32) (length l.structures) room)

  -- an entry was refused, since all of them wouldn't fit
  pub low_refused : (e : Error) → refusal_of t None 4 ≡ Some e → (e ≡ FieldWidth) × (2 ^ 32 ≤ 36 + 4 * length places)
  low_refused e refused =
      let l = low_listing base oem (take i places) in
      let no_room = refused_room (has_room l 4) e (rw is at refused) in
      (no_room.0, omega (arith, size_is, no_room_is (size_of l) 4 (2 ^ 32) (length l.structures) no_room.1, inside))

-- ---- the steps

-- the FACS if there is one, the DSDT and the FADT
pub low_begun : (base c a d n : ℕ) (facs : Option (List ℕ)) (dsdt p0 b1 b2 b3 p3 b4 : List ℕ) (fadt pointed : FADTBuilder) → p0 ≡ [] → c ≡ control_address base facs
    → b1 ≡ control_bytes facs → n ≡ length b1 → le 4 a ≡ le 4 (0 + c) → le 4 d ≡ le 4 (base + n) → Appended (whole dsdt) b1 b2 → b3 ≡ padded 8 b2
    → p3 ≡ p0 ++ length (padded 8 b2) ∷ [] → pointed ≡ pointing_low a d fadt → Appended (whole (fadt_bytes pointed)) b3 b4
    → record { bytes = b4; places = p3 } ≡ low_laid base facs dsdt fadt []
low_begun base c a d n facs dsdt p0 b1 b2 b3 p3 b4 fadt pointed no_places control at_base size own address second begun place points third =
    let at = control_address base facs in
    let front = control_bytes facs in
    let points_to : 0 + c ≡ at = omega (arith, control) in
    let first : le 4 a ≡ le 4 at = own ∙ ap (λ k. le 4 k) points_to in
    let told : le 4 d ≡ le 4 (base + length front) = address ∙ ap (λ k. le 4 (base + k)) (size ∙ ap length at_base) in
    let behind : b2 ≡ front ++ dsdt = second.joined ∙ ap (λ b. b ++ dsdt) at_base in
    let is : fadt_bytes pointed ≡ fadt_bytes (pointing_low at (base + length front) fadt) = ap fadt_bytes points ∙ low_fadt_same a at d (base + length front) fadt first told in
    placed_is b2 p0 b3 p3 b4 (fadt_bytes pointed) begun place third.joined ∙ ap (λ f. placed f (record { bytes = b2; places = p0 })) is
    ∙ ap (λ b. placed (fadt_bytes (pointing_low at (base + length front) fadt)) (record { bytes = b; places = p0 })) behind
    ∙ ap (λ p. placed (fadt_bytes (pointing_low at (base + length front) fadt)) (record { bytes = front ++ dsdt; places = p })) no_places

module _ (base : ℕ) (oem : Oem) (b0 places b1 : List ℕ) (padding : b1 ≡ padded 8 b0) where
  -- the RSDT
  pub low_finished : (b2 : List ℕ) (table : Listing) → table ≡ low_listing base oem places → Appended (whole (bytes_of table)) b1 b2
      → b2 ≡ with_rsdt base oem (record { bytes = b0; places = places })
  low_finished b2 table lists first = first.joined ∙ ap (λ b. b ++ bytes_of table) padding ∙ ap (λ t. padded 8 b0 ++ bytes_of t) lists

  -- the RSDP
  pub low_pointed : (d n : ℕ) (pointer : Rsdp0) (made : List ℕ) → n ≡ length b1 → le 4 d ≡ le 4 (base + n) → pointer ≡ rsdp0_for oem.id d → made ≡ rsdp0_bytes pointer
      → made ≡ low_pointer base oem (record { bytes = b0; places = places })
  low_pointed d n pointer made size address is bytes =
      let told : le 4 d ≡ le 4 (base + length (padded 8 b0)) = address ∙ ap (λ k. le 4 (base + k)) (size ∙ ap length padding) in
      bytes ∙ ap rsdp0_bytes is ∙ pointer_same oem.id d (base + length (padded 8 b0)) told
