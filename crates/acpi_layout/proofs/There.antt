-- Bytes at an address of an image, as a reader finds them.
use Rattle.std.proofs.Common.{◌≡◌, ℕ, zero, suc, ◌+◌, ◌-◌, ◌<◌, ◌≤◌, List, [], ◌∷◌, ◌++◌, length, take, drop, get_or, refl, sym, ap, ◌∙◌, arith, append_assoc, length-append, take-take}
use Rattle.std.specs.Prelude.{Option}
use Rattle.std.proofs.Math.Seq.{drop-append-add}
use Rattle.std.proofs.lemmas.List.{length-replicate, take_at, drop-take}
use Rattle.acpi_base.specs.Bytes.{carried, field_at, zeros}
use Rattle.acpi_base.specs.Table.{IsTrueTable}
use Rattle.acpi_base.specs.declared.oem.Oem.{Oem}
use Rattle.acpi_core.specs.Listing.{bytes_of}
use Rattle.acpi_fixed.specs.declared.fadt.FADTBuilder.{FADTBuilder}
use Rattle.acpi_fixed.specs.Fadt.{fadt_bytes}
use Rattle.acpi_fixed.specs.Rsdp.{rsdp_bytes, rsdp_for}
use Rattle.acpi_layout.specs.Addresses.{image_at, Lies, bytes_at}
use Rattle.acpi_layout.specs.Image.{Laid, Picture, control_bytes, pointed_fadt, listing, tables_laid, image}
use Rattle.acpi_layout.specs.Laws.{Standing, Stand, standing_at, standing_control, xsdt_address}
use Rattle.acpi_layout.specs.Found.{located, IsTableAt}
use Rattle.acpi_layout.specs.ReadBack.{found_at}
use Rattle.acpi_layout.proofs.Standing.{stand}

-- these bytes are at their address
pub record IsThere (base : ℕ) (total : List ℕ) (s : Standing) : Type 0 where
  pub lies : Lies base total s.address (length s.bytes)
  pub is : bytes_at base total s.address (length s.bytes) ≡ s.bytes

abbrev pub AreThere : ℕ → List ℕ → List Standing → Type 0
AreThere base total [] = Unit {0}
AreThere base total (s ∷ more) = IsThere base total s × AreThere base total more

pub are_there : (base : ℕ) (pre : List ℕ) (from : ℕ) (ss : List Standing) (rest total : List ℕ) → from ≡ base + length pre → total ≡ pre ++ rest → Stand from ss rest → AreThere base total ss
are_there base pre from [] rest total at is h = tt
are_there base pre from (s ∷ ss) rest total at is h =
    let k = h.0 in
    let more = h.1 in
    let front = pre ++ zeros k in
    let whole : total ≡ front ++ (s.bytes ++ more) = is ∙ ap (λ b. pre ++ b) h.3 ∙ sym (append_assoc pre (zeros k) (s.bytes ++ more)) in
    let long : length front ≡ length pre + k = omega (arith, length-append pre (zeros k), length-replicate {A = ℕ} k 0) in
    let size : length total ≡ length front + (length s.bytes + length more) =
    omega (arith, ap length whole, length-append front (s.bytes ++ more), length-append s.bytes more) in
    let far : s.address - base ≡ length front + 0 = omega (arith, long, h.2, at) in (
      record {
        lies = record { begins = omega (arith, h.2, at); ends = omega (arith, h.2, at, size, long) };
        is = ap (λ n. take (length s.bytes) (drop n total)) far ∙ ap (λ b. take (length s.bytes) (drop (length front + 0) b)) whole
            ∙ ap (λ b. take (length s.bytes) b) (drop-append-add front (s.bytes ++ more) 0) ∙ take_at s.bytes more (length s.bytes) refl;
      },
      are_there base (front ++ s.bytes) (s.address + length s.bytes) ss more total (omega (arith, h.2, at, long, length-append front s.bytes))
          (whole ∙ sym (append_assoc front s.bytes more)) h.4,
    )

pub those_there : (base : ℕ) (total : List ℕ) (ms more : List Standing) → AreThere base total (ms ++ more) → AreThere base total ms × AreThere base total more
those_there base total [] more h = (tt, h)
those_there base total (s ∷ ms) more h = let r = those_there base total ms more h.1 in ((h.0, r.0), r.1)

pub one_there : (base : ℕ) (total : List ℕ) (ms : List Standing) (i : ℕ) (e : Standing) → AreThere base total ms → i < length ms → IsThere base total (get_or ms i e)
one_there base total [] i e h inside = absurd (omega (arith, inside))
one_there base total (s ∷ ms) zero e h inside = h.0
one_there base total (s ∷ ms) (suc i) e h inside = one_there base total ms i e h.1 (omega (arith, inside))

-- the same by its address, with all that a reader reads
pub place_is : (base : ℕ) (total : List ℕ) (s : Standing) → IsThere base total s → found_at s ≡ located (image_at base total) s.address (length s.bytes)
place_is base total s there = ap (λ (b : List ℕ). record { address = s.address; length = length s.bytes; signature = take 4 b }) (sym there.is)

header_kept : (m n : ℕ) (b : List ℕ) → 8 ≤ n → m + 8 ≡ n → take 4 (drop 4 (take n b)) ≡ take 4 (drop 4 b)
header_kept m n b long is =
    let n_is : n ≡ 4 + (m + 4) = omega (arith, is) in
    ap (λ (k : ℕ). take 4 (drop 4 (take k b))) n_is ∙ ap (take 4) (drop-take 4 (m + 4) b) ∙ take-take 4 (m + 4) (drop 4 b) (omega arith)

length_told : (n : ℕ) (b : List ℕ) → 36 ≤ n → field_at 4 4 (take 36 b) ≡ field_at 4 4 (take n b)
length_told n b long = ap carried (header_kept 28 36 b (omega arith) refl ∙ sym (header_kept (n - 8) n b (omega (arith, long)) (omega (arith, long))))

pub table_there : (base : ℕ) (total : List ℕ) (s : Standing) → IsThere base total s → IsTrueTable s.bytes → IsTableAt (image_at base total) s.address (found_at s)
table_there base total s there correct =
    let told : field_at 4 4 (bytes_at base total s.address 36) ≡ length s.bytes =
    length_told (length s.bytes) (drop (s.address - base) total) correct.header ∙ ap (λ b. field_at 4 4 b) there.is ∙ correct.tells in
    record {
      header = record { begins = there.lies.begins; ends = omega (arith, there.lies.ends, correct.header) };
      is = place_is base total s there ∙ ap (located (image_at base total) s.address) (sym told);
      whole = there.lies;
      has_header = correct.header;
    }

-- ---- an image

-- each of its tables is at its address
pub record AllThere (base : ℕ) (oem : Oem) (facs : Option (List ℕ)) (dsdt : List ℕ) (fadt : FADTBuilder) (tables : List (List ℕ)) (laid : Laid) (made : Picture) : Type 0 where
  pub control : AreThere base made.bytes (standing_control base facs)
  pub block : IsThere base made.bytes (record { address = base + length (control_bytes facs); bytes = dsdt })
  pub rows : AreThere base made.bytes (standing_at base laid.places (fadt_bytes (pointed_fadt base facs fadt) ∷ tables))
  pub xsdt : IsThere base made.bytes (record { address = xsdt_address base laid; bytes = bytes_of (listing base oem laid.places) })
  pub pointer : IsThere base made.bytes (record { address = made.rsdp; bytes = rsdp_bytes (rsdp_for oem.id (xsdt_address base laid)) })
  pub listed : length laid.places ≡ 1 + length tables

pub all_there : (base : ℕ) (oem : Oem) (facs : Option (List ℕ)) (dsdt : List ℕ) (fadt : FADTBuilder) (tables : List (List ℕ))
    → AllThere base oem facs dsdt fadt tables (tables_laid base facs dsdt fadt tables) (image base oem facs dsdt fadt tables)
all_there base oem facs dsdt fadt tables =
    let made = image base oem facs dsdt fadt tables in
    let laid = tables_laid base facs dsdt fadt tables in
    let total = made.bytes in
    let control = standing_control base facs in
    let d : Standing = record { address = base + length (control_bytes facs); bytes = dsdt } in
    let rows = standing_at base laid.places (fadt_bytes (pointed_fadt base facs fadt) ∷ tables) in
    let x : Standing = record { address = xsdt_address base laid; bytes = bytes_of (listing base oem laid.places) } in
    let r : Standing = record { address = made.rsdp; bytes = rsdp_bytes (rsdp_for oem.id (xsdt_address base laid)) } in
    let after : List Standing = d ∷ (rows ++ (x ∷ r ∷ [])) in
    let s = stand base oem facs dsdt fadt tables in
    let there = those_there base total control after (are_there base [] base (control ++ after) total total (omega arith) refl s.all) in
    let both = those_there base total rows (x ∷ r ∷ []) there.1.1 in
    record { control = there.0; block = there.1.0; rows = both.0; xsdt = both.1.0; pointer = both.1.1.0; listed = s.listed }
