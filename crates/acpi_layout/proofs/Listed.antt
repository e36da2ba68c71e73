-- The addresses that an image lists.
use Rattle.std.proofs.Common.{◌≡◌, ℕ, ◌+◌, ◌*◌, ◌%◌, ◌^◌, ◌<◌, ◌≤◌, List, [], ◌∷◌, ◌++◌, length, map, take, drop, get_or, refl, sym, ap, subst, ◌∙◌, arith, length-append, zero, suc, codes}
use Rattle.std.specs.Prelude.{sum}
use Rattle.std.specs.List.{All}
use Rattle.std.proofs.Math.Seq.{drop-append-add}
use Rattle.std.proofs.lemmas.List.{get_or-map, length-map, ext_get_or}
use Rattle.std.proofs.lemmas.List.Elements.{All-append, All-nil}
use Rattle.acpi_base.specs.declared.oem.Oem.{Oem}
use Rattle.acpi_base.specs.Bytes.{put, carried, field_at}
use Rattle.acpi_core.specs.Listing.{bytes_of, body_of}
use Rattle.acpi_core.proofs.Offsets.{parts}
use Rattle.acpi_fixed.specs.Fadt.{fadt_bytes}
use Rattle.acpi_fixed.specs.Rsdp.{rsdp_bytes, rsdp_for}
use Rattle.acpi_fixed.proofs.Tables.{pointers}
use Rattle.acpi_layout.specs.declared.located.Located.{Located}
use Rattle.acpi_layout.specs.Addresses.{Space, image_at, bytes_at}
use Rattle.acpi_layout.specs.Image.{Laid, padded, placed, all_placed, control_bytes, pointed_fadt, listing, tables_laid, image}
use Rattle.acpi_layout.specs.Laws.{Standing, xsdt_address}
use Rattle.acpi_layout.specs.Found.{located, contents, IsTableAt, IsPointer, IsNamedTableAt, AreAddresses, Lists, AreListed, ImagesListOnce}
use Rattle.acpi_layout.specs.ReadBack.{found_at, ImagesListTheirTables}
use Rattle.acpi_layout.proofs.Images.{size_listing}
use Rattle.acpi_layout.proofs.Standing.{length-padded}
use Rattle.acpi_layout.proofs.Pointing.{is_listing, is_true_listing, entry, in_pointer}
use Rattle.acpi_layout.proofs.There.{IsThere, all_there, place_is, table_there}

-- ---- the same memory lists one list

module _ (memory : Space) (rsdp : ℕ) (addresses : List ℕ) (listed : Lists memory rsdp addresses) (p : Located) (p_is : IsPointer memory rsdp p) where
  pub xsdt_listed : IsNamedTableAt memory (codes "XSDT") (field_at 24 8 (contents memory p)) listed.xsdt
  xsdt_listed =
      let same : listed.xsdt_is.pointer ≡ p = listed.xsdt_is.pointer_is.is ∙ sym p_is.is in
      subst (λ (t : Located). IsNamedTableAt memory (codes "XSDT") (field_at 24 8 (contents memory t)) listed.xsdt) same listed.xsdt_is.is

  pub addresses_listed : (x : Located) → IsNamedTableAt memory (codes "XSDT") (field_at 24 8 (contents memory p)) x → AreAddresses memory x addresses
  addresses_listed x x_is =
      let same : listed.xsdt ≡ x = xsdt_listed.is_table.is ∙ sym x_is.is_table.is in
      subst (λ (t : Located). AreAddresses memory t addresses) same listed.addresses_are

one_list : (memory : Space) (xsdt : Located) (a b : List ℕ) → AreAddresses memory xsdt a → AreAddresses memory xsdt b → a ≡ b
one_list memory xsdt a b a_are b_are =
    let same : length a ≡ length b = omega (arith, a_are.counted, b_are.counted) in
    ext_get_or 0 a b same (λ i inside. a_are.each i inside ∙ sym (b_are.each i (omega (arith, same, inside))))

pub list_once : ImagesListOnce
list_once bytes base rsdp a b a_listed b_listed =
    let memory = image_at base bytes in
    one_list memory b_listed.xsdt a b (addresses_listed memory rsdp a a_listed b_listed.xsdt_is.pointer b_listed.xsdt_is.pointer_is b_listed.xsdt b_listed.xsdt_is.is) b_listed.addresses_are

-- ---- the XSDT

module _ (base : ℕ) (oem : Oem) (places : List ℕ) (six : length oem.id ≡ 6) (eight : length oem.table_id ≡ 8) (fits : 36 + 8 * length places < 2 ^ 32) where
  pub xsdt_size : length (bytes_of (listing base oem places)) ≡ 36 + 8 * length places
  xsdt_size =
      let t = listing base oem places in
      let p = parts t (is_listing base oem places six eight fits) in
      omega (arith, ap length p.is, length-append p.front (body_of t), p.long, size_listing base oem places)

  xsdt_named : take 4 (bytes_of (listing base oem places)) ≡ codes "XSDT"
  unfolding put
  xsdt_named = refl

-- ---- the RSDP

module _ (id : List ℕ) (a : ℕ) (six : length id ≡ 6) where
  revision_is : field_at 15 1 (rsdp_bytes (rsdp_for id a)) ≡ 2
  revision_is =
      let past : 6 ≡ length id + 0 = omega (arith, six) in
      ap (λ n. carried (take 1 (drop n (drop 9 (rsdp_bytes (rsdp_for id a)))))) past ∙ ap (λ b. carried (take 1 b)) (drop-append-add id _ 0) ∙ refl

  size_told : field_at 20 4 (rsdp_bytes (rsdp_for id a)) ≡ 36
  size_told =
      let past : 11 ≡ length id + 5 = omega (arith, six) in
      ap (λ n. carried (take 4 (drop n (drop 9 (rsdp_bytes (rsdp_for id a)))))) past ∙ ap (λ b. carried (take 4 b)) (drop-append-add id _ 5) ∙ refl

-- ---- an image, whatever its tables are

module _ (base : ℕ) (oem : Oem) (places total : List ℕ) (x_at r_at : ℕ) (six : length oem.id ≡ 6) (eight : length oem.table_id ≡ 8) (fits : 36 + 8 * length places < 2 ^ 32) (x_low : x_at < 2 ^ 64)
    (x_there : IsThere base total (record { address = x_at; bytes = bytes_of (listing base oem places) })) (r_there : IsThere base total (record { address = r_at; bytes = rsdp_bytes (rsdp_for oem.id x_at) })) where
  pub pointer_there : IsPointer (image_at base total) r_at (found_at (record { address = r_at; bytes = rsdp_bytes (rsdp_for oem.id x_at) }))
  pointer_there =
      let r : Standing = record { address = r_at; bytes = rsdp_bytes (rsdp_for oem.id x_at) } in
      let ptr = pointers oem.id x_at six in
      let is : bytes_at base total r_at 36 ≡ r.bytes = ap (λ n. bytes_at base total r_at n) (sym ptr.0) ∙ r_there.is in
      record {
        whole = record { begins = r_there.lies.begins; ends = omega (arith, r_there.lies.ends, ptr.0) };
        is = place_is base total r r_there ∙ ap (located (image_at base total) r_at) ptr.0;
        signature = ap (take 8) is;
        checksum = ap (λ b. sum (take 20 b) % 256) is ∙ ptr.1;
        revision = ap (λ b. field_at 15 1 b) is ∙ revision_is oem.id x_at six;
        tells = ap (λ b. field_at 20 4 b) is ∙ size_told oem.id x_at six;
        extended_checksum = ap (λ b. sum b % 256) is ∙ ptr.2;
      }

  pub xsdt_there : IsNamedTableAt (image_at base total) (codes "XSDT") (field_at 24 8 (contents (image_at base total) (found_at (record { address = r_at; bytes = rsdp_bytes (rsdp_for oem.id x_at) }))))
      (found_at (record { address = x_at; bytes = bytes_of (listing base oem places) }))
  xsdt_there =
      let x : Standing = record { address = x_at; bytes = bytes_of (listing base oem places) } in
      let at : field_at 24 8 (bytes_at base total r_at (length (rsdp_bytes (rsdp_for oem.id x_at)))) ≡ x_at = ap (λ b. field_at 24 8 b) r_there.is ∙ in_pointer oem.id x_at six x_low in
      record {
        is_table = subst (λ n. IsTableAt (image_at base total) n (found_at x)) (sym at) (table_there base total x x_there (is_true_listing base oem places six eight fits));
        is_named = xsdt_named base oem places six eight fits;
      }

  pub those_listed : ((i : ℕ) → i < length places → base + get_or places i 0 < 2 ^ 64) → AreListed base total r_at (map (λ place. base + place) places)
  those_listed low =
      let f : ℕ → ℕ = λ place. base + place in
      let count = length-map places f in
      record {
        xsdt = found_at (record { address = x_at; bytes = bytes_of (listing base oem places) });
        xsdt_is = record { pointer = found_at (record { address = r_at; bytes = rsdp_bytes (rsdp_for oem.id x_at) }); pointer_is = pointer_there; is = xsdt_there };
        addresses_are = record {
          counted = omega (arith, xsdt_size base oem places six eight fits, count);
          each = λ i inside.
              let within : i < length places = omega (arith, count, inside) in
              get_or-map f places i 0 0 within
              ∙ sym (ap (λ b. field_at (36 + 8 * i) 8 b) x_there.is ∙ entry base oem places i (is_listing base oem places six eight fits) within (low i within));
        };
      }

all_one : (P : ℕ → Type 0) (x : ℕ) → P x → All P (x ∷ [])
all_one P x p zero d inside = p
all_one P x p (suc k) d inside = absurd (omega (arith, inside))

-- a table begins among the bytes, or at their end
pub places_inside : (tables : List (List ℕ)) (laid : Laid) → All (λ place. place ≤ length laid.bytes) laid.places
    → All (λ place. place ≤ length (all_placed tables laid).bytes) (all_placed tables laid).places
places_inside [] laid all = all
places_inside (t ∷ tables) laid all =
    let here = length (padded 8 laid.bytes) in
    let end = length (placed t laid).bytes in
    let grown : here + length t ≡ end = sym (length-append (padded 8 laid.bytes) t) in
    let more = length-padded 8 laid.bytes in
    let first : All (λ place. place ≤ end) laid.places = λ i d inside. omega (arith, all i d inside, grown, more) in
    let last : All (λ place. place ≤ end) (here ∷ []) = all_one (λ place. place ≤ end) here (omega (arith, grown)) in
    places_inside tables (placed t laid) (All-append (λ place. place ≤ end) laid.places (here ∷ []) first last)

pub list_their_tables : ImagesListTheirTables
list_their_tables base oem facs dsdt fadt tables six eight low few =
    let laid = tables_laid base facs dsdt fadt tables in
    let start : Laid = record { bytes = control_bytes facs ++ dsdt; places = [] } in
    let all = all_there base oem facs dsdt fadt tables in
    let fits : 36 + 8 * length laid.places < 2 ^ 32 = omega (arith, all.listed, few) in
    let x_low : xsdt_address base laid < 2 ^ 64 = omega (arith, all.xsdt.lies.ends, xsdt_size base oem laid.places six eight fits, low) in
    let inside = places_inside (fadt_bytes (pointed_fadt base facs fadt) ∷ tables) start (All-nil (λ place. place ≤ length start.bytes)) in
    those_listed base oem laid.places (image base oem facs dsdt fadt tables).bytes (xsdt_address base laid) (image base oem facs dsdt fadt tables).rsdp six eight fits x_low all.xsdt all.pointer
    (λ i within. omega (arith, inside i 0 within, length-padded 8 laid.bytes, x_low))
