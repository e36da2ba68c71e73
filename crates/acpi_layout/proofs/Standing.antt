-- Where everything stands in an image.
use Rattle.std.proofs.Common.{◌≡◌, ℕ, ◌+◌, ◌%◌, ◌<◌, List, [], ◌∷◌, ◌++◌, length, refl, sym, ap, subst, ◌∙◌, arith, append_assoc, length-append}
use Rattle.std.specs.Prelude.{Option, Some, None}
use Rattle.std.proofs.lemmas.List.{append-nil, length-replicate}
use Rattle.acpi_base.specs.Bytes.{zeros}
use Rattle.acpi_core.specs.Listing.{bytes_of}
use Rattle.acpi_fixed.specs.Fadt.{fadt_bytes}
use Rattle.acpi_fixed.specs.Rsdp.{rsdp_bytes, rsdp_for}
use Rattle.acpi_layout.specs.Image.{Laid, gap, padded, placed, all_placed, control_bytes, pointed_fadt, listing, tables_laid, with_xsdt, image}
use Rattle.acpi_layout.specs.Laws.{Standing, Stand, standing_at, standing_control, xsdt_address, ImagesStand, AreAligned, ImagesAreAligned, AreClose, end_of, GapsAreLeast}
use Rattle.acpi_layout.proofs.Answered.{places_counted}

-- one more after zeros
stand_push : (from address : ℕ) (all : List Standing) (bytes b : List ℕ) (n : ℕ) → address ≡ from + length bytes + n → Stand from all bytes
    → Stand from (all ++ record { address = address; bytes = b } ∷ []) ((bytes ++ zeros n) ++ b)
stand_push from address [] bytes b n at is =
    let none : (bytes ++ zeros n) ++ b ≡ zeros n ++ (b ++ []) = ap (λ t. (t ++ zeros n) ++ b) is ∙ ap (λ t. zeros n ++ t) (sym (append-nil b)) in
    (n, [], omega (arith, at, ap length is), none, refl)
stand_push from address (s ∷ all) bytes b n at h =
    let k = h.0 in
    let rest = h.1 in
    let size : length bytes ≡ k + length s.bytes + length rest = omega (arith, ap length h.3, length-append (zeros k) (s.bytes ++ rest), length-append s.bytes rest, length-replicate {A = ℕ} k 0) in
    let joined : (bytes ++ zeros n) ++ b ≡ zeros k ++ (s.bytes ++ ((rest ++ zeros n) ++ b)) = ap (λ t. (t ++ zeros n) ++ b) h.3 ∙ simp append_assoc in
    (k, (rest ++ zeros n) ++ b, h.2, joined, stand_push (s.address + length s.bytes) address all rest b n (omega (arith, at, size, h.2)) h.4)

standing_push : (base place : ℕ) (places : List ℕ) (tables : List (List ℕ)) (table : List ℕ) → length places ≡ length tables
    → standing_at base (places ++ place ∷ []) (tables ++ table ∷ []) ≡ standing_at base places tables ++ record { address = base + place; bytes = table } ∷ []
standing_push base place [] [] table same = refl
standing_push base place [] (t ∷ tables) table same = absurd (omega (arith, same))
standing_push base place (p ∷ places) [] table same = absurd (omega (arith, same))
standing_push base place (p ∷ places) (t ∷ tables) table same =
    ap (λ more. record { address = base + p; bytes = t } ∷ more) (standing_push base place places tables table (omega (arith, same)))

pub length-padded : (unit : ℕ) (bytes : List ℕ) → length (padded unit bytes) ≡ length bytes + gap unit (length bytes)
length-padded unit bytes = omega (arith, length-append bytes (zeros (gap unit (length bytes))), length-replicate {A = ℕ} (gap unit (length bytes)) 0)

-- what is padded to a unit, and one more after it
pub stand_padded : (unit base : ℕ) (all : List Standing) (bytes b : List ℕ) → Stand base all bytes
    → Stand base (all ++ record { address = base + length (padded unit bytes); bytes = b } ∷ []) (padded unit bytes ++ b)
stand_padded unit base all bytes b h = stand_push base (base + length (padded unit bytes)) all bytes b (gap unit (length bytes)) (omega (arith, length-padded unit bytes)) h

module _ (base : ℕ) (before : List Standing) where
  pub all_stand : (tables : List (List ℕ)) (laid : Laid) (done : List (List ℕ)) → length laid.places ≡ length done → Stand base (before ++ standing_at base laid.places done) laid.bytes
      → Stand base (before ++ standing_at base (all_placed tables laid).places (done ++ tables)) (all_placed tables laid).bytes
  all_stand [] laid done same h = rw (append-nil done) h
  all_stand (t ∷ tables) laid done same h =
      let place = length (padded 8 laid.bytes) in
      let one : Standing = record { address = base + place; bytes = t } in
      let next = stand_padded 8 base (before ++ standing_at base laid.places done) laid.bytes t h in
      let list : (before ++ standing_at base laid.places done) ++ one ∷ [] ≡ before ++ standing_at base (laid.places ++ place ∷ []) (done ++ t ∷ []) =
      append_assoc before (standing_at base laid.places done) (one ∷ []) ∙ ap (λ more. before ++ more) (sym (standing_push base place laid.places done t same)) in
      let more = all_stand tables (placed t laid) (done ++ t ∷ []) (omega (arith, same, length-append laid.places (place ∷ []), length-append done (t ∷ []))) (rw list at next) in
      rw (append_assoc done (t ∷ []) tables) at more

regrouped : (a b s : List Standing) (x y : Standing) → (((a ++ b) ++ s) ++ x ∷ []) ++ y ∷ [] ≡ a ++ (b ++ (s ++ x ∷ y ∷ []))
regrouped a b s x y = simp append_assoc

-- the FACS if there is one, and the DSDT
pub begins : (base : ℕ) (facs : Option (List ℕ)) (dsdt : List ℕ)
    → Stand base (standing_control base facs ++ record { address = base + length (control_bytes facs); bytes = dsdt } ∷ []) (control_bytes facs ++ dsdt)
begins base None dsdt = (0, [], omega arith, sym (append-nil dsdt), refl)
begins base (Some facs) dsdt = (0, dsdt, omega arith, refl, (0, [], omega arith, sym (append-nil dsdt), refl))

pub stand : ImagesStand
stand base oem facs dsdt fadt tables =
    let first = fadt_bytes (pointed_fadt base facs fadt) in
    let start : Laid = record { bytes = control_bytes facs ++ dsdt; places = [] } in
    let laid = tables_laid base facs dsdt fadt tables in
    let control = standing_control base facs in
    let block : List Standing = record { address = base + length (control_bytes facs); bytes = dsdt } ∷ [] in
    let two = control ++ block in
    let listed = all_stand base two (first ∷ tables) start [] refl (rw append-nil (begins base facs dsdt)) in
    let rows = standing_at base laid.places (first ∷ tables) in
    let at_xsdt : Standing = record { address = xsdt_address base laid; bytes = bytes_of (listing base oem laid.places) } in
    let at_rsdp : Standing = record { address = (image base oem facs dsdt fadt tables).rsdp; bytes = rsdp_bytes (rsdp_for oem.id (xsdt_address base laid)) } in
    let xsdt = stand_padded 8 base (two ++ rows) laid.bytes at_xsdt.bytes listed in
    let pointer = stand_padded 16 base ((two ++ rows) ++ at_xsdt ∷ []) (with_xsdt base oem laid) at_rsdp.bytes xsdt in
    record {
      all = subst (λ (l : List Standing). Stand base l (image base oem facs dsdt fadt tables).bytes) (regrouped control block rows at_xsdt at_rsdp) pointer;
      listed = omega (arith, places_counted (first ∷ tables) start);
    }

-- ---- multiples

pub padded_8 : (base : ℕ) (bytes : List ℕ) → base % 64 ≡ 0 → (base + length (padded 8 bytes)) % 8 ≡ 0
padded_8 base bytes aligned = omega (arith, aligned, length-padded 8 bytes)

padded_16 : (base : ℕ) (bytes : List ℕ) → base % 64 ≡ 0 → (base + length (padded 16 bytes)) % 16 ≡ 0
padded_16 base bytes aligned = omega (arith, aligned, length-padded 16 bytes)

aligned_push : (base place : ℕ) (places : List ℕ) → (base + place) % 8 ≡ 0 → AreAligned base places → AreAligned base (places ++ place ∷ [])
aligned_push base place [] here all = (here, tt)
aligned_push base place (p ∷ places) here all = (all.0, aligned_push base place places here all.1)

pub all_aligned : (base : ℕ) (tables : List (List ℕ)) (laid : Laid) → base % 64 ≡ 0 → AreAligned base laid.places → AreAligned base (all_placed tables laid).places
all_aligned base [] laid aligned all = all
all_aligned base (t ∷ tables) laid aligned all =
    all_aligned base tables (placed t laid) aligned (aligned_push base (length (padded 8 laid.bytes)) laid.places (padded_8 base laid.bytes aligned) all)

pub are_aligned : ImagesAreAligned
are_aligned base oem facs dsdt fadt tables aligned =
    let laid = tables_laid base facs dsdt fadt tables in
    record {
      listed = all_aligned base (fadt_bytes (pointed_fadt base facs fadt) ∷ tables) (record { bytes = control_bytes facs ++ dsdt; places = [] }) aligned tt;
      xsdt = padded_8 base laid.bytes aligned;
      pointer = padded_16 base (with_xsdt base oem laid) aligned;
    }

-- ---- gaps

close_push : (unit from : ℕ) (all : List Standing) (s : Standing) → AreClose unit from all → s.address < end_of from all + unit → AreClose unit from (all ++ s ∷ [])
close_push unit from [] s all near = (near, tt)
close_push unit from (t ∷ all) s close near = (close.0, close_push unit (t.address + length t.bytes) all s close.1 near)

end_push : (from : ℕ) (all : List Standing) (s : Standing) → end_of from (all ++ s ∷ []) ≡ s.address + length s.bytes
end_push from [] s = refl
end_push from (t ∷ all) s = end_push (t.address + length t.bytes) all s

pub near_8 : (base : ℕ) (bytes : List ℕ) → base + length (padded 8 bytes) < base + length bytes + 8
near_8 base bytes = omega (arith, length-padded 8 bytes)

near_16 : (base : ℕ) (bytes : List ℕ) → base + length (padded 16 bytes) < base + length bytes + 16
near_16 base bytes = omega (arith, length-padded 16 bytes)

module _ (base from : ℕ) where
  pub all_close : (tables : List (List ℕ)) (laid : Laid) (done : List (List ℕ)) → length laid.places ≡ length done
      → AreClose 8 from (standing_at base laid.places done) → end_of from (standing_at base laid.places done) ≡ base + length laid.bytes
      → AreClose 8 from (standing_at base (all_placed tables laid).places (done ++ tables))
      × (end_of from (standing_at base (all_placed tables laid).places (done ++ tables)) ≡ base + length (all_placed tables laid).bytes)
  all_close [] laid done same close end = rw (append-nil done) (close, end)
  all_close (t ∷ tables) laid done same close end =
      let place = length (padded 8 laid.bytes) in
      let one : Standing = record { address = base + place; bytes = t } in
      let rows = standing_at base laid.places done in
      let list : rows ++ one ∷ [] ≡ standing_at base (laid.places ++ place ∷ []) (done ++ t ∷ []) = sym (standing_push base place laid.places done t same) in
      let near : base + place < end_of from rows + 8 = omega (arith, end, near_8 base laid.bytes) in
      let next : AreClose 8 from (rows ++ one ∷ []) = close_push 8 from rows one close near in
      let next_end : end_of from (rows ++ one ∷ []) ≡ base + length (padded 8 laid.bytes ++ t) = omega (arith, end_push from rows one, length-append (padded 8 laid.bytes) t) in
      let more =
      all_close tables (placed t laid) (done ++ t ∷ []) (omega (arith, same, length-append laid.places (place ∷ []), length-append done (t ∷ [])))
      (subst (λ (l : List Standing). AreClose 8 from l) list next) (ap (λ (l : List Standing). end_of from l) (sym list) ∙ next_end) in
      rw (append_assoc done (t ∷ []) tables) at more

pub are_least : GapsAreLeast
are_least base oem facs dsdt fadt tables =
    let first = fadt_bytes (pointed_fadt base facs fadt) in
    let start : Laid = record { bytes = control_bytes facs ++ dsdt; places = [] } in
    let laid = tables_laid base facs dsdt fadt tables in
    let from = base + length (control_bytes facs) + length dsdt in
    let rows = standing_at base laid.places (first ∷ tables) in
    let all : AreClose 8 from rows × (end_of from rows ≡ base + length laid.bytes) =
    all_close base from (first ∷ tables) start [] refl tt (omega (arith, length-append (control_bytes facs) dsdt)) in
    record {
      listed = all.0;
      xsdt = omega (arith, all.1, near_8 base laid.bytes);
      pointer = omega (arith, near_16 base (with_xsdt base oem laid), length-append (padded 8 laid.bytes) (bytes_of (listing base oem laid.places)));
    }
