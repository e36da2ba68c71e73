-- Images are read back.
use Rattle.std.proofs.Common.{◌≡◌, ◌≢◌, ℕ, zero, suc, ◌+◌, ◌*◌, ◌/◌, ◌%◌, ◌^◌, ◌<◌, ◌≤◌, List, [], ◌∷◌, ◌++◌, length, map, take, get_or, refl, sym, ap, subst, ◌∙◌, arith, append_assoc, length-append, inl, inr, codes}
use Rattle.std.specs.Prelude.{sum, bit_or, Bool, true, false, ◌==◌, ◌&&◌, if◌then◌else◌, Option, Some, None}
use Rattle.std.specs.List.{All}
use Rattle.std.proofs.lemmas.List.{append-nil, take_at, get_or-map, length-map}
use Rattle.std.proofs.lemmas.Bool.Decides.{nat_tests}
use Rattle.std.proofs.lemmas.Nat.{or_shr}
use Rattle.std.specs.Int.Bits.{or_step}
use Rattle.std.proofs.lemmas.List.Elements.{All-append, All-map}
use Rattle.acpi_base.specs.declared.oem.Oem.{Oem}
use Rattle.acpi_base.specs.Bytes.{le, put, carried, complement, field_at}
use Rattle.acpi_base.specs.Fields.{fields_joined}
use Rattle.acpi_base.specs.Table.{IsTrueTable}
use Rattle.acpi_core.specs.Listing.{bytes_of}
use Rattle.acpi_fixed.specs.declared.fadt.FADTBuilder.{FADTBuilder}
use Rattle.acpi_fixed.specs.Fadt.{fadt_bytes, builder_bytes, header_fields, fadt_fields}
use Rattle.acpi_fixed.specs.Rsdp.{rsdp_bytes, rsdp_for}
use Rattle.acpi_fixed.proofs.Tables.{true_fadt, length-fadt}
use Rattle.acpi_layout.specs.declared.located.Located.{Located}
use Rattle.acpi_layout.specs.declared.root.Root.TheVariants.{Xsdt}
use Rattle.acpi_layout.specs.Addresses.{image_at, bytes_at}
use Rattle.acpi_layout.specs.Image.{control_bytes, control_address, pointed_fadt, listing, tables_laid, image}
use Rattle.acpi_layout.specs.Laws.{Standing, Stand, standing_at, standing_control, xsdt_address, Points}
use Rattle.acpi_layout.specs.Found.{located, contents, IsTableAt, address_of, facs_address, dsdt_address, IsControlAt, is_reduced, has_no_control, IsControlOf, if_found, IsApart, AreApart, Found, IsImage}
use Rattle.acpi_layout.specs.ReadBack.{IsControl, AreTables, found_at, found_control, laid_tables, ImagesAreFound, ReducedIsTold}
use Rattle.acpi_layout.proofs.Standing.{stand}
use Rattle.acpi_layout.proofs.Pointing.{point, flags_in_fadt}
use Rattle.acpi_layout.proofs.There.{AreThere, one_there, place_is, table_there, all_there}
use Rattle.acpi_layout.proofs.Listed.{xsdt_size, pointer_there, xsdt_there}

-- ---- the list of the tables

-- each of a part of a list, in order, and what stands after it
record Spans (from : ℕ) (ms more : List Standing) : Type 0 where
  to : ℕ
  rest : List ℕ
  after : from ≤ to
  begin : All (λ (t : Located). from ≤ t.address) (map found_at ms)
  end : All (λ (t : Located). t.address + t.length ≤ to) (map found_at ms)
  apart : (tail : List Located) → All (λ (t : Located). t.address + t.length ≤ from) tail → AreApart tail → AreApart (map found_at ms ++ tail)
  stand_on : Stand to more rest

all_cons : {X : Type 0} (P : X → Type 0) (x : X) (xs : List X) → P x → All P xs → All P (x ∷ xs)
all_cons P x xs first all zero d inside = first
all_cons P x xs first all (suc k) d inside = all k d (omega (arith, inside))

all_nil : {X : Type 0} (P : X → Type 0) → All P []
all_nil P k d inside = absurd (omega (arith, inside))

spans : (from : ℕ) (ms more : List Standing) (bytes : List ℕ) → Stand from (ms ++ more) bytes → Spans from ms more
spans from [] more bytes h = record {
  to = from;
  rest = bytes;
  after = omega arith;
  begin = all_nil (λ (t : Located). from ≤ t.address);
  end = all_nil (λ (t : Located). t.address + t.length ≤ from);
  apart = λ tail below apart. apart;
  stand_on = h;
}
spans from (s ∷ ms) more bytes h =
    let next = spans (s.address + length s.bytes) ms more h.1 h.4 in
    let low : from ≤ s.address = omega (arith, h.2) in
    let past : s.address + length s.bytes ≤ next.to = next.after in
    record {
      to = next.to;
      rest = next.rest;
      after = omega (arith, low, past);
      begin = all_cons (λ (t : Located). from ≤ t.address) (found_at s) (map found_at ms) low (λ k d inside. omega (arith, low, next.begin k d inside));
      end = all_cons (λ (t : Located). t.address + t.length ≤ next.to) (found_at s) (map found_at ms) past next.end;
      apart = λ tail below apart. (
        All-append (IsApart (found_at s)) (map found_at ms) tail (λ k d inside. inl (next.begin k d inside)) (λ k d inside. inr (omega (arith, low, below k d inside))),
        next.apart tail (λ k d inside. omega (arith, low, below k d inside)) apart,
      );
      stand_on = next.stand_on;
    }

-- a few tables at first, and then others, the XSDT and the RSDP
apart_is : (from : ℕ) (few ms : List Standing) (x r : Standing) (bytes : List ℕ) → Stand from (few ++ (ms ++ (x ∷ r ∷ []))) bytes
    → AreApart (found_at r ∷ found_at x ∷ (map found_at ms ++ map found_at few))
apart_is from few ms x r bytes h =
    let low = spans from few (ms ++ (x ∷ r ∷ [])) bytes h in
    let mid = spans low.to ms (x ∷ r ∷ []) low.rest low.stand_on in
    let hx = mid.stand_on in
    let hr = hx.4 in
    let last = map found_at few in
    let l_x : low.to ≤ x.address = omega (arith, mid.after, hx.2) in
    let m_x : mid.to ≤ x.address = omega (arith, hx.2) in
    let x_r : x.address + length x.bytes ≤ r.address = omega (arith, hr.2) in
    let by : (n : ℕ) → low.to ≤ n → All (λ (t : Located). t.address + t.length ≤ n) last = λ n far k e inside. omega (arith, low.end k e inside, far) in
    let all : (n : ℕ) → x.address ≤ n → All (λ (t : Located). t.address + t.length ≤ n) (map found_at ms ++ last) = λ n far.
    All-append (λ (t : Located). t.address + t.length ≤ n) (map found_at ms) last (λ k e inside. omega (arith, mid.end k e inside, m_x, far)) (by n (omega (arith, l_x, far))) in
    let last_apart : AreApart last = subst AreApart (append-nil last) (low.apart [] (all_nil (λ (t : Located). t.address + t.length ≤ from)) tt) in
    let mids = mid.apart last (by low.to (omega arith)) last_apart in (
      all_cons (IsApart (found_at r)) (found_at x) (map found_at ms ++ last) (inr x_r) (λ k e inside. inr (all r.address (omega (arith, x_r)) k e inside)),
      ((λ k e inside. inr (all x.address (omega arith) k e inside)), mids),
    )

-- ---- the addresses in a FADT

zero_or : (a : ℕ) → (if a == 0 then 0 else a) ≡ a
zero_or a = grind (arith, nat_tests)

-- where the field of 32 bits is 0, that of 64 bits is the address
address_is : (fadt : List ℕ) (low high a : ℕ) → field_at low 4 fadt ≡ 0 → field_at high 8 fadt ≡ a → address_of fadt low high ≡ a
unfolding address_of
address_is fadt low high a none is =
    ap (λ n. if field_at high 8 fadt == 0 then n else field_at high 8 fadt) none ∙ ap (λ n. if n == 0 then 0 else n) is ∙ zero_or a

-- ---- the FACS

-- the FACS, or none, as the test says, and then the DSDT
some_apart : (base : ℕ) (b : Bool) (f d x r : Standing) (ms : List Standing) (bytes : List ℕ) → Stand base (f ∷ d ∷ (ms ++ (x ∷ r ∷ []))) bytes
    → AreApart (found_at r ∷ found_at x ∷ (map found_at ms ++ (if_found (if b then None else Some (found_at f)) ++ (found_at d ∷ []))))
some_apart base true f d x r ms bytes h = apart_is (f.address + length f.bytes) (d ∷ []) ms x r h.1 h.4
some_apart base false f d x r ms bytes h = apart_is base (f ∷ d ∷ []) ms x r bytes h

control_apart : (base : ℕ) (facs : Option (List ℕ)) (fadt : FADTBuilder) (d x r : Standing) (ms : List Standing) (bytes : List ℕ)
    → Stand base (standing_control base facs ++ (d ∷ (ms ++ (x ∷ r ∷ [])))) bytes
    → AreApart (found_at r ∷ found_at x ∷ (map found_at ms ++ (if_found (found_control base facs fadt) ++ (found_at d ∷ []))))
control_apart base None fadt d x r ms bytes h = apart_is base (d ∷ []) ms x r bytes h
control_apart base (Some facs) fadt d x r ms bytes h =
    some_apart base (is_reduced fadt.flags && (base == 0)) (record { address = base; bytes = facs }) d x r ms bytes h

some_found : (base : ℕ) (total fadt : List ℕ) (b : Bool) (f : Located) → has_no_control Xsdt fadt ≡ b → IsControlAt (image_at base total) (facs_address Xsdt fadt) f
    → IsControlOf Xsdt (image_at base total) fadt (if b then None else Some f)
some_found base total fadt true f says is = says
some_found base total fadt false f says is = (says, is)

control_found : (base : ℕ) (total whole : List ℕ) (facs : Option (List ℕ)) (fadt : FADTBuilder) → IsControl fadt facs → AreThere base total (standing_control base facs)
    → facs_address Xsdt whole ≡ control_address base facs → is_reduced (field_at 112 4 whole) ≡ is_reduced fadt.flags → IsControlOf Xsdt (image_at base total) whole (found_control base facs fadt)
control_found base total whole None fadt are there at flags =
    ap (λ b. b && (facs_address Xsdt whole == 0)) (flags ∙ are) ∙ ap (λ n. true && (n == 0)) at
control_found base total whole (Some facs) fadt are there at flags =
    let f : Standing = record { address = base; bytes = facs } in
    let f_there = there.0 in
    let f_bytes : bytes_at base total base 64 ≡ facs = ap (λ n. bytes_at base total base n) (sym are.size) ∙ f_there.is in
    let is : IsControlAt (image_at base total) base (found_at f) = record {
      whole = record { begins = f_there.lies.begins; ends = omega (arith, f_there.lies.ends, are.size) };
      is = place_is base total f f_there ∙ ap (located (image_at base total) base) are.size;
      signature = are.signature;
      tells = ap (λ b. field_at 4 4 b) f_bytes ∙ are.tells;
    } in
    some_found base total whole (is_reduced fadt.flags && (base == 0)) (found_at f)
    (ap (λ b. b && (facs_address Xsdt whole == 0)) flags ∙ ap (λ n. is_reduced fadt.flags && (n == 0)) at)
    (subst (λ n. IsControlAt (image_at base total) n (found_at f)) (sym at) is)

-- ---- HW_REDUCED_ACPI

-- the low bits of a number are in its bytes
flags_told : (n : ℕ) → is_reduced (carried (le 4 n)) ≡ is_reduced n
flags_told n =
    let same : carried (le 4 n) / 2 ^ 20 % 2 ≡ n / 2 ^ 20 % 2 = omega arith in
    ap (λ k. k == 1) same

bit_set : (n : ℕ) → bit_or n 0x100000 / 2 ^ 20 % 2 ≡ 1
bit_set n = omega (arith, or_shr n 0x100000 20, or_step (n / 2 ^ 20) 1)

pub reduced_is_told : ReducedIsTold
reduced_is_told fadt = ap (λ k. k == 1) (bit_set fadt.flags)

-- ---- the FADT

front_kept : (k x : List ℕ) → 9 ≤ length x → take 4 (put 9 k x) ≡ take 4 x
unfolding put
front_kept k (a ∷ b ∷ c ∷ d ∷ x) long = refl
front_kept k x long = absurd (omega (arith, long))

size_is : (f : FADTBuilder) → length (fields_joined (header_fields f)) ≡ 36 → length (builder_bytes f) ≡ 276
size_is f header =
    let size : length (fields_joined (fadt_fields f)) ≡ 240 = refl in
    omega (arith, length-append (fields_joined (header_fields f)) (fields_joined (fadt_fields f)), header, size)

four_is : (s : List ℕ) → s ≡ codes "FACP" → length s ≡ 4
four_is s is = ap length is

fadt_named : (f : FADTBuilder) → f.signature ≡ codes "FACP" → length (fields_joined (header_fields f)) ≡ 36 → take 4 (fadt_bytes f) ≡ codes "FACP"
fadt_named f is header =
    front_kept (complement (sum (put 9 (0 ∷ []) (builder_bytes f))) ∷ []) (builder_bytes f) (omega (arith, size_is f header))
    ∙ ap (take 4) (append_assoc f.signature _ _) ∙ take_at f.signature _ 4 (four_is f.signature is) ∙ is

-- ---- the entries

row_at : (base : ℕ) (places : List ℕ) (tables : List (List ℕ)) (i : ℕ) (e : Standing) → length places ≡ length tables → i < length places
    → get_or (standing_at base places tables) i e ≡ record { address = base + get_or places i 0; bytes = get_or tables i [] }
row_at base [] tables i e same inside = absurd (omega (arith, inside))
row_at base (p ∷ places) [] i e same inside = absurd (omega (arith, same))
row_at base (p ∷ places) (t ∷ tables) zero e same inside = refl
row_at base (p ∷ places) (t ∷ tables) (suc i) e same inside = row_at base places tables i e (omega (arith, same)) (omega (arith, inside))

rows_counted : (base : ℕ) (places : List ℕ) (tables : List (List ℕ)) → length places ≡ length tables → length (standing_at base places tables) ≡ length places
rows_counted base [] tables same = refl
rows_counted base (p ∷ places) [] same = absurd (omega (arith, same))
rows_counted base (p ∷ places) (t ∷ tables) same = omega (arith, rows_counted base places tables (omega (arith, same)))

all_true : (t : List ℕ) (ts : List (List ℕ)) → IsTrueTable t → All IsTrueTable ts → (i : ℕ) → i < length (t ∷ ts) → IsTrueTable (get_or (t ∷ ts) i [])
all_true t ts first all zero inside = first
all_true t ts first all (suc i) inside = all i [] (omega (arith, inside))

others_at : (P : List ℕ → Type 0) (t : List ℕ) (ts : List (List ℕ)) → All P ts → (i : ℕ) → 0 < i → i < length (t ∷ ts) → P (get_or (t ∷ ts) i [])
others_at P t ts all zero after inside = absurd (omega (arith, after))
others_at P t ts all (suc i) after inside = all i [] (omega (arith, inside))

only_first : (i : ℕ) → (0 < i → ⊥) → i ≡ 0
only_first i h = omega arith

no_row : Standing
no_row = record { address = 0; bytes = [] }

module _ (base : ℕ) (oem : Oem) (facs : Option (List ℕ)) (dsdt : List ℕ) (fadt : FADTBuilder) (tables : List (List ℕ)) (six : length oem.id ≡ 6) (eight : length oem.table_id ≡ 8)
    (are : AreTables facs dsdt fadt tables) (low : base + length (image base oem facs dsdt fadt tables).bytes ≤ 2 ^ 64) (few : 36 + 8 * (1 + length tables) < 2 ^ 32) where
  found : IsImage (image base oem facs dsdt fadt tables).bytes base (image base oem facs dsdt fadt tables).rsdp (laid_tables base oem facs dsdt fadt tables)
  found =
      let total = (image base oem facs dsdt fadt tables).bytes in
      let laid = tables_laid base facs dsdt fadt tables in
      let p = pointed_fadt base facs fadt in
      let all = fadt_bytes p ∷ tables in
      let rows = standing_at base laid.places all in
      let d : Standing = record { address = base + length (control_bytes facs); bytes = dsdt } in
      let x : Standing = record { address = xsdt_address base laid; bytes = bytes_of (listing base oem laid.places) } in
      let r : Standing = record { address = (image base oem facs dsdt fadt tables).rsdp; bytes = rsdp_bytes (rsdp_for oem.id (xsdt_address base laid)) } in
      let there = all_there base oem facs dsdt fadt tables in
      let x_there = there.xsdt in
      let fits : 36 + 8 * length laid.places < 2 ^ 32 = omega (arith, there.listed, few) in
      let x_size = xsdt_size base oem laid.places six eight fits in
      let x_low : xsdt_address base laid < 2 ^ 64 = omega (arith, x_there.lies.ends, x_size, low) in
      let d_low : base + length (control_bytes facs) < 2 ^ 64 = omega (arith, there.block.lies.ends, are.dsdt_is_correct.header, low) in
      let pt : Points base oem facs fadt laid = point base oem facs fadt laid six eight are.fadt_header fits x_low d_low in
      let p_named : take 4 (fadt_bytes p) ≡ codes "FACP" = fadt_named p are.fadt_signature are.fadt_header in
      let p_true : IsTrueTable (fadt_bytes p) = true_fadt p (four_is fadt.signature are.fadt_signature) (size_is p are.fadt_header) are.fadt_length in
      let p_size : length (fadt_bytes p) ≡ 276 = length-fadt p (size_is p are.fadt_header) in
      let same : length laid.places ≡ length all = omega (arith, there.listed) in
      let counted = rows_counted base laid.places all same in
      let true_at : (i : ℕ) → i < length all → IsTrueTable (get_or all i []) = λ i inside. all_true (fadt_bytes p) tables p_true are.are_correct i inside in
      let x_contents : contents (image_at base total) (found_at x) ≡ x.bytes = x_there.is in
      let entry : (i : ℕ) → i < length laid.places → IsTableAt (image_at base total) (base + get_or laid.places i 0) (found_at (get_or rows i no_row)) = λ i inside.
      let row = row_at base laid.places all i no_row same inside in
      let here = one_there base total rows i no_row there.rows (omega (arith, counted, inside)) in
      let correct : IsTrueTable (get_or rows i no_row).bytes = subst (λ (w : Standing). IsTrueTable w.bytes) (sym row) (true_at i (omega (arith, same, inside))) in
      subst (λ n. IsTableAt (image_at base total) n (found_at (get_or rows i no_row))) (ap (λ (w : Standing). w.address) row) (table_there base total (get_or rows i no_row) here correct) in
      let small : (i : ℕ) → i < length laid.places → base + get_or laid.places i 0 < 2 ^ 64 = λ i inside. let e = entry i inside in omega (arith, e.header.ends, low) in
      let first = get_or rows 0 no_row in
      let some : 0 < length laid.places = omega (arith, there.listed) in
      let first_is = row_at base laid.places all 0 no_row same some in
      let first_bytes : first.bytes ≡ fadt_bytes p = ap (λ (w : Standing). w.bytes) first_is in
      let first_there = one_there base total rows 0 no_row there.rows (omega (arith, counted, some)) in
      let first_contents : contents (image_at base total) (found_at first) ≡ fadt_bytes p = first_there.is ∙ first_bytes in
      let f_at : facs_address Xsdt (contents (image_at base total) (found_at first)) ≡ control_address base facs =
      ap (facs_address Xsdt) first_contents ∙ address_is (fadt_bytes p) 36 132 (control_address base facs) pt.firmware_ctrl pt.x_firmware_ctrl in
      let d_at : dsdt_address Xsdt (contents (image_at base total) (found_at first)) ≡ base + length (control_bytes facs) =
      ap (dsdt_address Xsdt) first_contents ∙ address_is (fadt_bytes p) 40 140 (base + length (control_bytes facs)) pt.dsdt pt.x_dsdt in
      let placed : (i : ℕ) → i < length rows → i < length laid.places = λ i inside. omega (arith, counted, inside) in
      let mapped : (i : ℕ) → i < length (map found_at rows) → i < length rows = λ i inside. omega (arith, length-map rows found_at, inside) in
      let flags_at : is_reduced (field_at 112 4 (contents (image_at base total) (found_at first))) ≡ is_reduced fadt.flags =
      ap (λ b. is_reduced (field_at 112 4 b)) first_contents ∙ ap is_reduced (flags_in_fadt p are.fadt_header) ∙ flags_told fadt.flags in
      let all_found : Found Xsdt (image_at base total) r.address = record {
        pointer = found_at r;
        listing = found_at x;
        entries = map found_at rows;
        fadt = found_at first;
        facs = found_control base facs fadt;
        dsdt = found_at d;
        pointer_is = pointer_there base oem laid.places total x.address r.address six eight fits x_low x_there there.pointer;
        listing_is = xsdt_there base oem laid.places total x.address r.address six eight fits x_low x_there there.pointer;
        entries_are = record {
          counted = omega (arith, x_size, counted, length-map rows found_at);
          each = λ i e inside.
              let at : field_at (36 + 8 * i) 8 (contents (image_at base total) (found_at x)) ≡ base + get_or laid.places i 0 =
              ap (λ b. field_at (36 + 8 * i) 8 b) x_contents ∙ pt.entries i (placed i (mapped i inside)) (small i (placed i (mapped i inside))) in
              let is : get_or (map found_at rows) i e ≡ found_at (get_or rows i no_row) = get_or-map found_at rows i no_row e (mapped i inside) in
              subst (λ n. IsTableAt (image_at base total) n (get_or (map found_at rows) i e)) (sym at)
              (subst (λ (t : Located). IsTableAt (image_at base total) (base + get_or laid.places i 0) t) (sym is) (entry i (placed i (mapped i inside))));
        };
        fadt_is = record {
          index = 0;
          inside = omega (arith, length-map rows found_at, counted, some);
          is = λ e. get_or-map found_at rows 0 no_row e (omega (arith, counted, some));
          signature = ap (take 4) first_bytes ∙ p_named;
          only = λ i e inside named. only_first i (λ after.
              let row = row_at base laid.places all i no_row same (placed i (mapped i inside)) in
              let is : get_or (map found_at rows) i e ≡ found_at (get_or rows i no_row) = get_or-map found_at rows i no_row e (mapped i inside) in
              let other : take 4 (get_or all i []) ≢ codes "FACP" =
              others_at (λ t. take 4 t ≢ codes "FACP") (fadt_bytes p) tables are.are_others i after (omega (arith, same, placed i (mapped i inside))) in
              other (sym (ap (λ (w : Standing). take 4 w.bytes) row) ∙ sym (ap (λ (t : Located). t.signature) is) ∙ named));
          has_addresses = omega (arith, ap length first_bytes, p_size);
        };
        facs_is = control_found base total (contents (image_at base total) (found_at first)) facs fadt are.control there.control f_at flags_at;
        dsdt_is = record {
          is_table = subst (λ n. IsTableAt (image_at base total) n (found_at d)) (sym d_at) (table_there base total d there.block are.dsdt_is_correct);
          is_named = are.dsdt_signature;
        };
      } in
      record {
        found = all_found;
        listed = refl;
        apart = control_apart base facs fadt d x r rows total (stand base oem facs dsdt fadt tables).all;
        listing_is_correct = subst IsTrueTable (sym x_there.is) pt.xsdt_is_true;
        entries_are_correct = All-map (λ (t : Located). IsTrueTable (contents (image_at base total) t)) found_at rows (λ i e inside.
            let row = row_at base laid.places all i e same (placed i inside) in
            let here = one_there base total rows i e there.rows inside in
            let correct : IsTrueTable (get_or rows i e).bytes = subst (λ (w : Standing). IsTrueTable w.bytes) (sym row) (true_at i (omega (arith, same, placed i inside))) in
            subst IsTrueTable (sym here.is) correct);
        dsdt_is_correct = subst IsTrueTable (sym there.block.is) are.dsdt_is_correct;
      }

pub are_found : ImagesAreFound
are_found base oem facs dsdt fadt tables six eight are low few = found base oem facs dsdt fadt tables six eight are low few
