-- Images: what the steps of laying make.
use Rattle.std.proofs.Common.{◌≡◌, ℕ, ◌+◌, ◌*◌, ◌^◌, ◌<◌, ◌≤◌, List, [], ◌∷◌, ◌++◌, length, map, take, drop, get_or, Bool, true, false, Some, None, refl, sym, ap, ◌∙◌, arith, length-append}
use Rattle.std.specs.Prelude.{codes, sum, if◌then◌else◌, Option}
use Rattle.std.proofs.lemmas.List.{take_more, map-append, length-take-le}
use Rattle.std.proofs.lemmas.Bool.Decides.{nat_tests}
use Rattle.acpi_base.specs.declared.error.Error.{Error}
use Rattle.acpi_base.specs.declared.error.Error.TheVariants.{Memory, FieldWidth}
use Rattle.acpi_base.specs.declared.oem.Oem.{Oem}
use Rattle.acpi_base.specs.Bytes.{le, complement}
use Rattle.acpi_base.specs.Fields.{NamedField, byte, dword, bytes, reserved, fields_joined}
use Rattle.acpi_base.specs.Object.{Object, whole, all_of, Appended, IsOwnEnd}
use Rattle.acpi_base.specs.Table.{with_checksum}
use Rattle.acpi_base.proofs.Lists.{all_of_push, end_at, taken, parted}
use Rattle.acpi_core.specs.Listing.{Listing, bytes_of, size_of, with_structure}
use Rattle.acpi_core.specs.Addition.{has_room, refusal_of}
use Rattle.acpi_core.specs.Flat.{has_space}
use Rattle.acpi_fixed.specs.declared.fadt.FADTBuilder.{FADTBuilder}
use Rattle.acpi_fixed.specs.Fadt.{fadt_bytes, header_fields, legacy_fields, extended_fields}
use Rattle.acpi_fixed.specs.declared.rsdp.Rsdp.{Rsdp}
use Rattle.acpi_fixed.specs.Rsdp.{rsdp_bytes, rsdp_for}
use Rattle.acpi_layout.specs.Image.{Laid, padded, placed, all_placed, control_bytes, control_address, pointing, listing, tables_laid, with_xsdt, with_pointer, fronts, Places}

-- ---- tables one after another

pub all_placed_push : (tables : List (List ℕ)) (table : List ℕ) (laid : Laid) → all_placed (tables ++ table ∷ []) laid ≡ placed table (all_placed tables laid)
all_placed_push [] table laid = refl
all_placed_push (t ∷ tables) table laid = all_placed_push tables table (placed t laid)

-- one more was placed
pub placed_is : (b p b1 p1 b2 front : List ℕ) → b1 ≡ padded 8 b → p1 ≡ p ++ length (padded 8 b) ∷ [] → b2 ≡ b1 ++ front
    → record { bytes = b2; places = p1 } ≡ placed front (record { bytes = b; places = p })
placed_is b p b1 p1 b2 front begun place joined = rw (joined, begun, place) refl

module _ {X : Type 0} (f : X → Object) (xs : List X) (i : ℕ) (x : X) (inside : i < length xs) (is : x ≡ get_or xs i x) where
  pub places_next : (old : Laid) (b p b1 p1 b2 : List ℕ) → Places (map f (take i xs)) old (record { bytes = b; places = p })
      → b1 ≡ padded 8 b → p1 ≡ p ++ length (padded 8 b) ∷ [] → Appended (f x) b1 b2 → Places (map f (take (i + 1) xs)) old (record { bytes = b2; places = p1 })
  places_next old b p b1 p1 b2 before begun place here =
      let os = map f (take i xs) in
      let pushed = all_of_push os (f x) before.are_whole here.is_whole in
      rw (taken f xs i x inside is) (record {
        are_whole = pushed.0;
        laid = placed_is b p b1 p1 b2 (f x).front begun place here.joined ∙ ap (placed (f x).front) before.laid
            ∙ sym (all_placed_push (fronts os) (f x).front old) ∙ ap (λ ts. all_placed ts old) (sym (map-append (λ o. o.front) os (f x ∷ [])));
      })

  pub ends_at : (e : Error) (old new : Laid) → Places (map f (take i xs)) old new → IsOwnEnd e (f x) → IsOwnEnd e (all_of (map f xs))
  ends_at e old new before here = record { cause = λ other. rw (parted f xs i x inside is) (end_at (map f (take i xs)) (f x) (map f (drop (i + 1) xs)) e before.are_whole (here.cause other)) }

pub memory_end : (e : Error) (o : Object) → e ≡ Memory → IsOwnEnd e o
memory_end e o is = record { cause = λ other. absurd (other is) }

-- ---- addresses in bytes

-- bytes of an FADT that points to an address of these bytes
pub fadt_same : (facs d k : ℕ) (fadt : FADTBuilder) → le 8 d ≡ le 8 k → fadt_bytes (pointing facs d fadt) ≡ fadt_bytes (pointing facs k fadt)
fadt_same facs d k fadt same =
    let f = pointing facs d fadt in
    let rest : List ℕ → List NamedField = λ q. legacy_fields f ++ (take 5 (extended_fields f) ++ (bytes "X_DSDT" 8 q ∷ drop 6 (extended_fields f))) in
    ap (λ (q : List ℕ). with_checksum (fields_joined (header_fields f) ++ fields_joined (rest q))) same

-- the bytes of an RSDP, by those of the address
pointer_with : List ℕ → List ℕ → ℕ → ℕ → List ℕ
pointer_with id q first both = fields_joined
    (bytes "Signature" 8 (codes "RSD PTR ")
    ∷ byte "Checksum" first
    ∷ bytes "OEMID" 6 id
    ∷ byte "Revision" 2
    ∷ dword "RsdtAddress" 0
    ∷ dword "Length" 36
    ∷ bytes "XsdtAddress" 8 q
    ∷ byte "Extended Checksum" both
    ∷ reserved 3
    ∷ [])

first_of : List ℕ → List ℕ → ℕ
first_of id q = complement (sum (take 20 (pointer_with id q 0 0)))

summed_pointer : List ℕ → List ℕ → List ℕ
summed_pointer id q = pointer_with id q (first_of id q) (complement (sum (pointer_with id q (first_of id q) 0)))

pub pointer_same : (id : List ℕ) (d k : ℕ) → le 8 d ≡ le 8 k → rsdp_bytes (rsdp_for id d) ≡ rsdp_bytes (rsdp_for id k)
unfolding summed_pointer pointer_with first_of
pointer_same id d k same = ap (summed_pointer id) same

-- ---- the XSDT

pub size_listing : (base : ℕ) (oem : Oem) (places : List ℕ) → size_of (listing base oem places) ≡ 36 + 8 * length places
size_listing base oem [] = refl
size_listing base oem (p ∷ places) = omega (arith, size_listing base oem places)

pub listing_next : (base : ℕ) (oem : Oem) (places : List ℕ) (i : ℕ) (entry : List ℕ) (t new : Listing) → i < length places
    → t ≡ listing base oem (take i places) → entry ≡ le 8 (base + get_or places i 0) → new ≡ with_structure t entry → new ≡ listing base oem (take (i + 1) places)
listing_next base oem places i entry t new inside before bytes grown =
    grown ∙ ap (λ (s : Listing). with_structure s entry) before ∙ ap (with_structure (listing base oem (take i places))) bytes
    ∙ rw (take_more places i 0 inside, map-append) refl

pub accepted_room : (b : Bool) → (if b then None else Some FieldWidth) ≡ None → b ≡ true
accepted_room true h = refl
accepted_room false h = absurd cc

pub refused_room : (b : Bool) (e : Error) → (if b then None else Some FieldWidth) ≡ Some e → (e ≡ FieldWidth) × (b ≡ false)
refused_room true e h = absurd cc
refused_room false e h = (cc, refl)

pub room_is : (size more limit count : ℕ) → has_space size more limit count 0 ≡ true → size + more < limit
room_is size more limit count h = grind (arith, nat_tests, h)

pub no_room_is : (size more limit count : ℕ) → has_space size more limit count 0 ≡ false → limit ≤ size + more
no_room_is size more limit count h = grind (arith, nat_tests, h)

module _ (base : ℕ) (oem : Oem) (places : List ℕ) (i : ℕ) (inside : i < length places) (t : Listing) (is : t ≡ listing base oem (take i places)) where
  pub size_is : size_of (listing base oem (take i places)) ≡ 36 + 8 * i
  size_is = omega (arith, size_listing base oem (take i places), length-take-le i places (omega arith))

  -- an entry was accepted, and the XSDT still fits
  pub entry_fits : refusal_of t None 8 ≡ None → 36 + 8 * (i + 1) < 2 ^ 32
  entry_fits accepted =
      let l = listing base oem (take i places) in
      let room : has_room l 8 ≡ true = accepted_room (has_room l 8) (rw is at accepted) in
      omega (arith, size_is, room_is (size_of l) 8 (2 ^ 32) (length l.structures) room)

  -- an entry was refused, since all of them wouldn't fit
  pub entry_refused : (e : Error) → refusal_of t None 8 ≡ Some e → (e ≡ FieldWidth) × (2 ^ 32 ≤ 36 + 8 * length places)
  entry_refused e refused =
      let l = listing base oem (take i places) in
      let no_room = refused_room (has_room l 8) e (rw is at refused) in
      (no_room.0, omega (arith, size_is, no_room_is (size_of l) 8 (2 ^ 32) (length l.structures) no_room.1, inside))

-- ---- the steps

-- the FACS if there is one, the DSDT and the FADT
pub begun_is : (base d n : ℕ) (facs : Option (List ℕ)) (dsdt p0 b1 b2 b3 p3 b4 : List ℕ) (fadt pointed : FADTBuilder) → p0 ≡ [] → b1 ≡ control_bytes facs
    → n ≡ length b1 → le 8 d ≡ le 8 (base + n) → Appended (whole dsdt) b1 b2 → b3 ≡ padded 8 b2 → p3 ≡ p0 ++ length (padded 8 b2) ∷ []
    → pointed ≡ pointing (control_address base facs) d fadt → Appended (whole (fadt_bytes pointed)) b3 b4 → record { bytes = b4; places = p3 } ≡ tables_laid base facs dsdt fadt []
begun_is base d n facs dsdt p0 b1 b2 b3 p3 b4 fadt pointed no_places at_base size address second begun place points third =
    let at = control_address base facs in
    let front = control_bytes facs in
    let told : le 8 d ≡ le 8 (base + length front) = address ∙ ap (λ k. le 8 (base + k)) (size ∙ ap length at_base) in
    let behind : b2 ≡ front ++ dsdt = second.joined ∙ ap (λ b. b ++ dsdt) at_base in
    let is : fadt_bytes pointed ≡ fadt_bytes (pointing at (base + length front) fadt) = ap fadt_bytes points ∙ fadt_same at d (base + length front) fadt told in
    placed_is b2 p0 b3 p3 b4 (fadt_bytes pointed) begun place third.joined ∙ ap (λ f. placed f (record { bytes = b2; places = p0 })) is
    ∙ ap (λ b. placed (fadt_bytes (pointing at (base + length front) fadt)) (record { bytes = b; places = p0 })) behind
    ∙ ap (λ p. placed (fadt_bytes (pointing at (base + length front) fadt)) (record { bytes = front ++ dsdt; places = p })) no_places

module _ (base d n : ℕ) (oem : Oem) (b0 places b1 b2 b3 b4 : List ℕ) (table : Listing) (pointer : Rsdp) (lists : table ≡ listing base oem places) (padding : b1 ≡ padded 8 b0)
    (first : Appended (whole (bytes_of table)) b1 b2) (padding2 : b3 ≡ padded 16 b2) (second : Appended (whole (rsdp_bytes pointer)) b3 b4) where
  before_pointer : b3 ≡ padded 16 (with_xsdt base oem (record { bytes = b0; places = places }))
  before_pointer =
      padding2 ∙ ap (padded 16) (first.joined ∙ ap (λ b. b ++ bytes_of table) padding ∙ ap (λ t. padded 8 b0 ++ bytes_of t) lists)

  -- the XSDT and the RSDP
  pub finished_is : n ≡ length b1 → le 8 d ≡ le 8 (base + n) → pointer ≡ rsdp_for oem.id d → b4 ≡ (with_pointer base oem (record { bytes = b0; places = places })).bytes
  finished_is size address is =
      let told : le 8 d ≡ le 8 (base + length (padded 8 b0)) = address ∙ ap (λ k. le 8 (base + k)) (size ∙ ap length padding) in
      second.joined ∙ ap (λ b. b ++ rsdp_bytes pointer) before_pointer
      ∙ ap (λ b. padded 16 (with_xsdt base oem (record { bytes = b0; places = places })) ++ b) (ap rsdp_bytes is ∙ pointer_same oem.id d (base + length (padded 8 b0)) told)

  pub pointer_has_bytes : pointer ≡ rsdp_for oem.id d → length b3 + 1 ≤ length b4
  pointer_has_bytes is =
      let size : 1 ≤ length (rsdp_bytes (rsdp_for oem.id d)) = omega arith in
      omega (arith, ap length second.joined, length-append b3 (rsdp_bytes pointer), ap (λ p. length (rsdp_bytes p)) is, size)

  pub pointer_is_at : (k rsdp : ℕ) → pointer ≡ rsdp_for oem.id d → k ≡ length b3 → (base + k < 2 ^ 64 → rsdp ≡ base + k) → base + length b4 ≤ 2 ^ 64
      → rsdp ≡ (with_pointer base oem (record { bytes = b0; places = places })).rsdp
  pointer_is_at k rsdp is size address fits =
      address (omega (arith, size, fits, pointer_has_bytes is)) ∙ ap (λ j. base + j) (size ∙ ap length before_pointer)
