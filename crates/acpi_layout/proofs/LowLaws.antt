-- Laws of images with an RSDT.
use Rattle.std.proofs.Common.{◌≡◌, ℕ, zero, suc, ◌+◌, ◌*◌, ◌^◌, ◌<◌, ◌≤◌, List, [], ◌∷◌, ◌++◌, length, map, take, drop, get_or, Some, None, refl, ap, subst, ◌∙◌, arith, append_assoc, length-append, inl}
use Rattle.std.specs.Prelude.{Option}
use Rattle.std.proofs.Math.Seq.{drop-append-add}
use Rattle.std.proofs.lemmas.List.{append-nil, take_at, get_or-map, length-map}
use Rattle.std.proofs.lemmas.List.Elements.{All-nil}
use Rattle.std.specs.List.{concat}
use Rattle.acpi_base.specs.declared.oem.Oem.{Oem}
use Rattle.acpi_base.specs.Bytes.{le, carried, field_at}
use Rattle.acpi_base.specs.Header.{header}
use Rattle.acpi_base.proofs.Bytes.{carried_le, length_le}
use Rattle.acpi_base.proofs.Tables.{length-header, length-with_checksum}
use Rattle.acpi_core.specs.Listing.{IsListing, bytes_of, body_of}
use Rattle.acpi_core.specs.Offset.{offset_of, structure_at}
use Rattle.acpi_core.proofs.Offsets.{are_true, stand}
use Rattle.acpi_fixed.specs.Fadt.{fadt_bytes}
use Rattle.acpi_fixed.specs.Rsdp.{rsdp0_bytes, rsdp0_for}
use Rattle.acpi_fixed.proofs.Tables.{first_pointers}
use Rattle.acpi_layout.specs.Addresses.{bytes_at}
use Rattle.acpi_layout.specs.Image.{Laid, padded, control_bytes, control_address}
use Rattle.acpi_layout.specs.Laws.{Standing, Stand, standing_at, standing_control, AreClose, end_of}
use Rattle.acpi_layout.specs.Rsdt.{low_fadt, low_listing, low_laid, rsdt_address, low_pointer, low_bytes}
use Rattle.acpi_layout.specs.RsdtLaws.{LowImagesStand, LowImagesAreAligned, LowGapsAreLeast, LowImagesPoint, LowImagesAreFound}
use Rattle.acpi_layout.proofs.Answered.{places_counted}
use Rattle.acpi_layout.proofs.Low.{size_low}
use Rattle.acpi_layout.proofs.LowAnswered.{longer, fadt_is_before}
use Rattle.acpi_layout.proofs.Standing.{begins, stand_padded, all_stand, padded_8, all_aligned, near_8, all_close, length-padded}
use Rattle.acpi_layout.proofs.Pointing.{number_in_fadt}
use Rattle.acpi_layout.proofs.Listed.{places_inside}
use Rattle.acpi_layout.proofs.There.{IsThere, AreThere, are_there, those_there, one_there}

-- ---- where everything stands

regrouped : (a b s : List Standing) (x : Standing) → ((a ++ b) ++ s) ++ x ∷ [] ≡ a ++ (b ++ (s ++ x ∷ []))
regrouped a b s x = simp append_assoc

pub low_stand : LowImagesStand
low_stand base oem facs dsdt fadt tables =
    let first = fadt_bytes (low_fadt base facs fadt) in
    let start : Laid = record { bytes = control_bytes facs ++ dsdt; places = [] } in
    let laid = low_laid base facs dsdt fadt tables in
    let control = standing_control base facs in
    let block : List Standing = record { address = base + length (control_bytes facs); bytes = dsdt } ∷ [] in
    let two = control ++ block in
    let listed = all_stand base two (first ∷ tables) start [] refl (rw append-nil (begins base facs dsdt)) in
    let rows = standing_at base laid.places (first ∷ tables) in
    let at_rsdt : Standing = record { address = rsdt_address base laid; bytes = bytes_of (low_listing base oem laid.places) } in
    let list = stand_padded 8 base (two ++ rows) laid.bytes at_rsdt.bytes listed in
    record {
      all = subst (λ (l : List Standing). Stand base l (low_bytes base oem facs dsdt fadt tables)) (regrouped control block rows at_rsdt) list;
      listed = omega (arith, places_counted (first ∷ tables) start);
    }

pub low_aligned : LowImagesAreAligned
low_aligned base facs dsdt fadt tables aligned =
    let laid = low_laid base facs dsdt fadt tables in
    record {
      listed = all_aligned base (fadt_bytes (low_fadt base facs fadt) ∷ tables) (record { bytes = control_bytes facs ++ dsdt; places = [] }) aligned tt;
      rsdt = padded_8 base laid.bytes aligned;
    }

pub low_least : LowGapsAreLeast
low_least base facs dsdt fadt tables =
    let first = fadt_bytes (low_fadt base facs fadt) in
    let start : Laid = record { bytes = control_bytes facs ++ dsdt; places = [] } in
    let laid = low_laid base facs dsdt fadt tables in
    let from = base + length (control_bytes facs) + length dsdt in
    let rows = standing_at base laid.places (first ∷ tables) in
    let all : AreClose 8 from rows × (end_of from rows ≡ base + length laid.bytes) =
    all_close base from (first ∷ tables) start [] refl tt (omega (arith, length-append (control_bytes facs) dsdt)) in
    record { listed = all.0; rsdt = omega (arith, all.1, near_8 base laid.bytes) }

-- ---- the RSDT

is_low_listing : (base : ℕ) (oem : Oem) (places : List ℕ) → length oem.id ≡ 6 → length oem.table_id ≡ 8 → 36 + 4 * length places < 2 ^ 32 → IsListing (low_listing base oem places)
is_low_listing base oem places six eight fits = record {
  signature = refl;
  id = six;
  table_id = eight;
  width = inl refl;
  limit = omega arith;
  counted = inl refl;
  fits = omega (arith, size_low base oem places, fits);
}

offset_is : (base : ℕ) (places : List ℕ) (i : ℕ) → i ≤ length places → length (concat (take i (map (λ place. le 4 (base + place)) places))) ≡ 4 * i
offset_is base places zero h = refl
offset_is base [] (suc i) h = absurd (omega (arith, h))
offset_is base (p ∷ places) (suc i) h = omega (arith, offset_is base places i (omega (arith, h)))

low_entry : (base : ℕ) (oem : Oem) (places : List ℕ) (i : ℕ) → IsListing (low_listing base oem places) → i < length places → base + get_or places i 0 < 2 ^ 32
    → field_at (36 + 4 * i) 4 (bytes_of (low_listing base oem places)) ≡ base + get_or places i 0
low_entry base oem places i is inside small =
    let t = low_listing base oem places in
    let f : ℕ → List ℕ = λ place. le 4 (base + place) in
    let v = base + get_or places i 0 in
    let many : i < length t.structures = omega (arith, length-map places f, inside) in
    let there = stand t i is many in
    let at : 36 + 4 * i ≡ offset_of t i = omega (arith, offset_is base places i (omega (arith, inside))) in
    let bytes : structure_at t i ≡ le 4 v = get_or-map f places i 0 [] inside in
    ap (λ n. field_at n 4 (bytes_of t)) at
    ∙ ap (λ b. carried (take 4 b)) (there.1 ∙ ap (λ b. b ++ there.0) bytes)
    ∙ ap carried (take_at (le 4 v) there.0 4 (length_le 4 v)) ∙ carried_le 4 v small

low_size : (base : ℕ) (oem : Oem) (places : List ℕ) → length oem.id ≡ 6 → length oem.table_id ≡ 8 → length (bytes_of (low_listing base oem places)) ≡ 36 + 4 * length places
low_size base oem places six eight =
    let t = low_listing base oem places in
    let head = header t.signature (36 + length (body_of t)) t.revision t.oem in
    let size : length head ≡ 36 = length-header t.signature (36 + length (body_of t)) t.revision t.oem refl six eight in
    let body : length (body_of t) ≡ 4 * length places = omega (arith, size_low base oem places) in
    omega (arith, size, body, length-append head (body_of t), length-with_checksum (head ++ body_of t) (omega (arith, size, length-append head (body_of t))))

-- ---- the RSDP

in_low_pointer : (id : List ℕ) (a : ℕ) → length id ≡ 6 → a < 2 ^ 32 → field_at 16 4 (rsdp0_bytes (rsdp0_for id a)) ≡ a
in_low_pointer id a six small =
    let past : 7 ≡ length id + 1 = omega (arith, six) in
    ap (λ n. carried (take 4 (drop n (drop 9 (rsdp0_bytes (rsdp0_for id a)))))) past
    ∙ ap (λ b. carried (take 4 b)) (drop-append-add id _ 1) ∙ carried_le 4 a small

low_revision : (id : List ℕ) (a : ℕ) → length id ≡ 6 → field_at 15 1 (rsdp0_bytes (rsdp0_for id a)) ≡ 0
low_revision id a six =
    let past : 6 ≡ length id + 0 = omega (arith, six) in
    ap (λ n. carried (take 1 (drop n (drop 9 (rsdp0_bytes (rsdp0_for id a)))))) past ∙ ap (λ b. carried (take 1 b)) (drop-append-add id _ 0) ∙ refl

-- the FACS's address, or 0, fits its field
address_fits : (base : ℕ) (facs : Option (List ℕ)) → base + length (control_bytes facs) < 2 ^ 32 → control_address base facs < 2 ^ 32
address_fits base None fits = omega arith
address_fits base (Some facs) fits = omega (arith, fits)

pub low_point : LowImagesPoint
low_point base oem facs fadt laid six eight widths fits rsdt dsdt =
    let p = low_fadt base facs fadt in
    let is = is_low_listing base oem laid.places six eight fits in
    let sums = first_pointers oem.id (rsdt_address base laid) six in
    record {
      firmware_ctrl = number_in_fadt p 0 4 (control_address base facs) widths (omega arith) refl (address_fits base facs dsdt);
      dsdt = number_in_fadt p 4 4 (base + length (control_bytes facs)) widths (omega arith) refl dsdt;
      x_firmware_ctrl = number_in_fadt p 96 8 0 widths (omega arith) refl (omega arith);
      x_dsdt = number_in_fadt p 104 8 0 widths (omega arith) refl (omega arith);
      entries = λ i inside small. low_entry base oem laid.places i is inside small;
      rsdt_is_true = (are_true (low_listing base oem laid.places) is).0;
      rsdt = in_low_pointer oem.id (rsdt_address base laid) six rsdt;
      signature = refl;
      revision = low_revision oem.id (rsdt_address base laid) six;
      size = sums.0;
      checksum = sums.1;
    }

-- ---- read back

row_is : (base : ℕ) (places : List ℕ) (tables : List (List ℕ)) (i : ℕ) (e : Standing) (d : List ℕ) → length places ≡ length tables → i < length tables
    → get_or (standing_at base places tables) i e ≡ record { address = base + get_or places i 0; bytes = get_or tables i d }
row_is base [] [] i e d same inside = absurd (omega (arith, inside))
row_is base [] (t ∷ tables) i e d same inside = absurd (omega (arith, same))
row_is base (p ∷ places) [] i e d same inside = absurd (omega (arith, same))
row_is base (p ∷ places) (t ∷ tables) zero e d same inside = refl
row_is base (p ∷ places) (t ∷ tables) (suc i) e d same inside = row_is base places tables i e d (omega (arith, same)) (omega (arith, inside))

rows_counted : (base : ℕ) (places : List ℕ) (tables : List (List ℕ)) → length places ≡ length tables → length (standing_at base places tables) ≡ length tables
rows_counted base [] [] same = refl
rows_counted base [] (t ∷ tables) same = absurd (omega (arith, same))
rows_counted base (p ∷ places) [] same = absurd (omega (arith, same))
rows_counted base (p ∷ places) (t ∷ tables) same = omega (arith, rows_counted base places tables (omega (arith, same)))

-- bytes are found at an address that is read
there_at : (base : ℕ) (total : List ℕ) (s : Standing) (a : ℕ) → IsThere base total s → a ≡ s.address → bytes_at base total a (length s.bytes) ≡ s.bytes
there_at base total s a there is = ap (λ n. bytes_at base total n (length s.bytes)) is ∙ there.is

control_there : (base : ℕ) (total : List ℕ) (facs : Option (List ℕ)) (a : ℕ) → AreThere base total (standing_control base facs) → a ≡ control_address base facs
    → (control : List ℕ) → facs ≡ Some control → bytes_at base total a (length control) ≡ control
control_there base total None a there is control one = absurd cc
control_there base total (Some facs) a there is control one =
    let same : facs ≡ control = cc in
    subst (λ (c : List ℕ). bytes_at base total a (length c) ≡ c) same (there_at base total (record { address = base; bytes = facs }) a there.0 is)

pub low_found : LowImagesAreFound
low_found base oem facs dsdt fadt tables six eight widths low =
    let total = low_bytes base oem facs dsdt fadt tables in
    let laid = low_laid base facs dsdt fadt tables in
    let start : Laid = record { bytes = control_bytes facs ++ dsdt; places = [] } in
    let first = fadt_bytes (low_fadt base facs fadt) in
    let control = standing_control base facs in
    let d : Standing = record { address = base + length (control_bytes facs); bytes = dsdt } in
    let rows = standing_at base laid.places (first ∷ tables) in
    let x : Standing = record { address = rsdt_address base laid; bytes = bytes_of (low_listing base oem laid.places) } in
    let s = low_stand base oem facs dsdt fadt tables in
    let there = those_there base total control (d ∷ (rows ++ (x ∷ []))) (are_there base [] base (control ++ (d ∷ (rows ++ (x ∷ [])))) total total (omega arith) refl s.all) in
    let both = those_there base total rows (x ∷ []) there.1.1 in
    let d_there : IsThere base total d = there.1.0 in
    let x_there : IsThere base total x = both.1.0 in
    let whole : length total ≡ length (padded 8 laid.bytes) + length x.bytes = length-append (padded 8 laid.bytes) x.bytes in
    let long = low_size base oem laid.places six eight in
    let some = fadt_is_before base facs dsdt fadt tables in
    let fits : 36 + 4 * length laid.places < 2 ^ 32 = omega (arith, low, whole, some, long, length-padded 8 laid.bytes) in
    let x_low : rsdt_address base laid < 2 ^ 32 = omega (arith, low, whole, long) in
    let inside = places_inside (first ∷ tables) start (All-nil (λ place. place ≤ length start.bytes)) in
    let more : length start.bytes ≤ length laid.bytes = longer (first ∷ tables) start in
    let d_low : base + length (control_bytes facs) < 2 ^ 32 = omega (arith, more, length-append (control_bytes facs) dsdt, length-padded 8 laid.bytes, x_low) in
    let points = low_point base oem facs fadt laid six eight widths fits x_low d_low in
    record {
      rsdt_there = there_at base total x (field_at 16 4 (low_pointer base oem laid)) x_there points.rsdt;
      entries_there = λ i e within.
          let counted : length laid.places ≡ length (first ∷ tables) = omega (arith, s.listed) in
          let listed : i < length (first ∷ tables) = omega (arith, within) in
          let row = row_is base laid.places (first ∷ tables) i x e counted listed in
          let at : IsThere base total (record { address = base + get_or laid.places i 0; bytes = get_or (first ∷ tables) i e }) =
          subst (λ (r : Standing). IsThere base total r) row (one_there base total rows i x both.0 (omega (arith, rows_counted base laid.places (first ∷ tables) counted, listed))) in
          let within' : i < length laid.places = omega (arith, counted, listed) in
          let small : base + get_or laid.places i 0 < 2 ^ 32 = omega (arith, inside i 0 within', length-padded 8 laid.bytes, x_low) in
          there_at base total (record { address = base + get_or laid.places i 0; bytes = get_or (first ∷ tables) i e }) _ at (points.entries i within' small);
      facs_there = control_there base total facs _ there.0 points.firmware_ctrl;
      dsdt_there = there_at base total d _ d_there points.dsdt;
    }
