-- The tables that are laid for an address, in parts: which of them depend on the address.
use Rattle.std.proofs.Common.{◌≡◌, ℕ, ◌+◌, ◌*◌, ◌^◌, ◌<◌, ◌≤◌, List, [], ◌∷◌, ◌++◌, length, map, take, drop, refl, sym, ap, ◌∙◌, arith, append_assoc, length-append, get_or}
use Rattle.std.specs.Prelude.{sum, codes, Option}
use Rattle.std.specs.List.{concat}
use Rattle.std.proofs.lemmas.List.{append-nil, length-replicate, length-take-le, length-drop, take-append-drop, drop-drop, drop_more, length-map}
use Rattle.acpi_base.specs.Bytes.{le, put, zeros, complement, field_at}
use Rattle.acpi_base.specs.Table.{with_checksum}
use Rattle.acpi_base.specs.declared.oem.Oem.{Oem}
use Rattle.acpi_base.proofs.Bytes.{carried_le, length_le}
use Rattle.acpi_base.proofs.Puts.{put_in, length-put}
use Rattle.acpi_core.specs.Listing.{bytes_of}
use Rattle.acpi_layout.specs.Files.{pointing, pointed, oem_of}
use Rattle.acpi_layout.specs.Image.{Laid, gap, padded, placed, all_placed, control_bytes, control_address, listing, with_xsdt}
use Rattle.acpi_loader.specs.Tables.{Tables, laid, fadt_place, xsdt_place, tables_at}
use Rattle.acpi_loader.proofs.Moves.{checked}

-- ---- tables one after another

-- tables at multiples of 8, behind n bytes
more_of : ℕ → List (List ℕ) → List ℕ
more_of n [] = []
more_of n (t ∷ ts) = zeros (gap 8 n) ++ (t ++ more_of (n + gap 8 n + length t) ts)

-- where they begin
places_behind : ℕ → List (List ℕ) → List ℕ
places_behind n [] = []
places_behind n (t ∷ ts) = (n + gap 8 n) ∷ places_behind (n + gap 8 n + length t) ts

-- each is below a limit
abbrev pub AreBelow : ℕ → List ℕ → Type 0
AreBelow limit [] = Unit {0}
AreBelow limit (p ∷ ps) = (p < limit) × AreBelow limit ps

padded_size : (g n : ℕ) (b : List ℕ) → length b ≡ n → length (b ++ zeros g) ≡ n + g
padded_size g n b size = omega (arith, length-append b (zeros g), length-replicate {A = ℕ} g 0, size)

module _ (t b : List ℕ) where
  next_size : length (padded 8 b ++ t) ≡ length b + gap 8 (length b) + length t
  next_size = omega (arith, length-append (padded 8 b) t, padded_size (gap 8 (length b)) (length b) b refl)

all_bytes : (ts : List (List ℕ)) (l : Laid) → (all_placed ts l).bytes ≡ l.bytes ++ more_of (length l.bytes) ts
unfolding more_of
all_bytes [] l = sym (append-nil l.bytes)
all_bytes (t ∷ ts) l =
    let n = length l.bytes in
    let z = zeros (gap 8 n) in
    let rest = more_of (n + gap 8 n + length t) ts in
    all_bytes ts (placed t l) ∙ ap (λ k. (padded 8 l.bytes ++ t) ++ more_of k ts) (next_size t l.bytes)
    ∙ append_assoc (l.bytes ++ z) t rest ∙ append_assoc l.bytes z (t ++ rest)

all_places : (ts : List (List ℕ)) (l : Laid) → (all_placed ts l).places ≡ l.places ++ places_behind (length l.bytes) ts
unfolding places_behind
all_places [] l = sym (append-nil l.places)
all_places (t ∷ ts) l =
    let n = length l.bytes in
    let rest = places_behind (n + gap 8 n + length t) ts in
    all_places ts (placed t l) ∙ ap (λ k. (l.places ++ length (padded 8 l.bytes) ∷ []) ++ places_behind k ts) (next_size t l.bytes)
    ∙ ap (λ k. (l.places ++ k ∷ []) ++ rest) (padded_size (gap 8 n) n l.bytes refl)
    ∙ append_assoc l.places ((n + gap 8 n) ∷ []) rest

count_behind : (n : ℕ) (ts : List (List ℕ)) → length (places_behind n ts) ≡ length ts
unfolding places_behind
count_behind n [] = refl
count_behind n (t ∷ ts) = omega (arith, count_behind (n + gap 8 n + length t) ts)

below_step : (n g t r z limit : ℕ) → n + (z + (t + r)) < limit → z ≡ g → (n + g < limit) × (n + g + t + r < limit)
below_step n g t r z limit h e = (omega (arith, h, e), omega (arith, h, e))

behind_below : (n limit : ℕ) (ts : List (List ℕ)) → n + length (more_of n ts) < limit → AreBelow limit (places_behind n ts)
unfolding more_of places_behind
behind_below n limit [] h = tt
behind_below n limit (t ∷ ts) h =
    let g = gap 8 n in
    let rest = more_of (n + g + length t) ts in
    let size : length (more_of n (t ∷ ts)) ≡ length (zeros g) + (length t + length rest)
    = length-append (zeros g) (t ++ rest) ∙ ap (λ k. length (zeros g) + k) (length-append t rest) in
    let both = below_step n g (length t) (length rest) (length (zeros g)) limit (rw size at h) (length-replicate {A = ℕ} g 0) in
    (both.0, behind_below (n + g + length t) limit ts both.1)

-- ---- the FADT

-- a checksum behind 9 bytes
pub with_sum : (c : ℕ) (h s : List ℕ) → length h ≡ 9 → with_checksum (h ++ c ∷ s) ≡ h ++ complement (sum (h ++ 0 ∷ s)) ∷ s
with_sum c h s at =
    ap (λ b. put 9 (complement (sum b) ∷ []) (h ++ c ∷ s)) (checked 9 c 0 h s at) ∙ checked 9 c (complement (sum (h ++ 0 ∷ s))) h s at

-- A FADT is bytes before its checksum, the checksum, bytes before X_FIRMWARE_CTRL, both addresses, and the rest.
pub record FadtParts (fadt : List ℕ) : Type 0 where
  pub front : List ℕ
  pub check : ℕ
  pub middle : List ℕ
  pub back : List ℕ
  pub front_size : length front ≡ 9
  pub middle_size : length middle ≡ 122
  pub size : 148 + length back ≡ length fadt
  pub with : (v w : List ℕ) → length v ≡ 8 → length w ≡ 8
      → put 140 w (put 132 v (put 36 (zeros 8) fadt)) ≡ front ++ check ∷ (middle ++ (v ++ (w ++ back)))

cut_in : (i n : ℕ) (x : List ℕ) → drop i x ≡ take n (drop i x) ++ drop (i + n) x
cut_in i n x = sym (ap (λ l. take n (drop i x) ++ l) (sym (drop-drop n i x)) ∙ take-append-drop n (drop i x))

pub fadt_parts : (fadt : List ℕ) → 148 ≤ length fadt → FadtParts fadt
fadt_parts fadt long =
    let g = put 36 (zeros 8) fadt in
    let lg : length g ≡ length fadt = length-put 36 (zeros 8) fadt (omega (arith, long)) in
    let k = take 132 g in
    let lk : length k ≡ 132 = length-take-le 132 g (omega (arith, lg, long)) in
    let v0 = take 8 (drop 132 g) in
    let lv : length v0 ≡ 8 = length-take-le 8 (drop 132 g) (omega (arith, length-drop 132 g, lg, long)) in
    let w0 = take 8 (drop 140 g) in
    let lw : length w0 ≡ 8 = length-take-le 8 (drop 140 g) (omega (arith, length-drop 140 g, lg, long)) in
    let back = drop 148 g in
    let cut : g ≡ k ++ (v0 ++ (w0 ++ back))
    = sym (take-append-drop 132 g) ∙ ap (λ l. k ++ l) (cut_in 132 8 g ∙ ap (λ l. v0 ++ l) (cut_in 140 8 g)) in
    let h = take 9 k in
    let c = get_or k 9 0 in
    let m = drop 10 k in
    let of_k : k ≡ h ++ c ∷ m = sym (take-append-drop 9 k) ∙ ap (λ l. h ++ l) (drop_more k 9 0 (omega (arith, lk))) in
    record {
      front = h;
      check = c;
      middle = m;
      back = back;
      front_size = length-take-le 9 k (omega (arith, lk));
      middle_size = omega (arith, length-drop 10 k, lk);
      size = omega (arith, length-drop 148 g, lg, long);
      with = λ v w eight eight'.
          ap (λ l. put 140 w (put 132 v l)) cut
          ∙ ap (put 140 w) (put_in k v0 (w0 ++ back) v 132 lk (lv ∙ sym eight) ∙ sym (append_assoc k v (w0 ++ back)))
          ∙ put_in (k ++ v) w0 back w 140 (omega (arith, length-append k v, lk, eight)) (lw ∙ sym eight')
          ∙ append_assoc k v (w ++ back) ∙ ap (λ l. l ++ (v ++ (w ++ back))) of_k ∙ append_assoc h (c ∷ m) (v ++ (w ++ back));
    }

-- the FADT that points to these addresses
pub pointing_is : (fadt : List ℕ) (p : FadtParts fadt) (a d : ℕ)
    → pointing a d fadt
    ≡ p.front ++ complement (sum (p.front ++ 0 ∷ (p.middle ++ (le 8 a ++ (le 8 d ++ p.back))))) ∷ (p.middle ++ (le 8 a ++ (le 8 d ++ p.back)))
pointing_is fadt p a d =
    ap with_checksum (p.with (le 8 a) (le 8 d) (length_le 8 a) (length_le 8 d))
    ∙ with_sum p.check p.front (p.middle ++ (le 8 a ++ (le 8 d ++ p.back))) p.front_size

pub fadt_size : (fadt : List ℕ) (p : FadtParts fadt) (c a d : ℕ) → length (p.front ++ c ∷ (p.middle ++ (le 8 a ++ (le 8 d ++ p.back)))) ≡ length fadt
fadt_size fadt p c a d = omega (
  arith,
  length-append p.front (c ∷ (p.middle ++ (le 8 a ++ (le 8 d ++ p.back)))),
  length-append p.middle (le 8 a ++ (le 8 d ++ p.back)),
  length-append (le 8 a) (le 8 d ++ p.back),
  length-append (le 8 d) p.back,
  length_le 8 a,
  length_le 8 d,
  p.front_size,
  p.middle_size,
  p.size,
)

pub pointing_size : (fadt : List ℕ) (p : FadtParts fadt) (a d : ℕ) → length (pointing a d fadt) ≡ length fadt
pointing_size fadt p a d =
    let body = p.middle ++ (le 8 a ++ (le 8 d ++ p.back)) in
    ap length (pointing_is fadt p a d) ∙ fadt_size fadt p (complement (sum (p.front ++ 0 ∷ body))) a d

-- ---- the XSDT

-- its entries
abbrev pub entries_of : ℕ → List ℕ → List ℕ
entries_of base places = concat (map (λ place. le 8 (base + place)) places)

pub entries_size : (base : ℕ) (places : List ℕ) → length (entries_of base places) ≡ 8 * length places
entries_size base [] = refl
entries_size base (p ∷ places) =
    omega (arith, length-append (le 8 (base + p)) (entries_of base places), length_le 8 (base + p), entries_size base places)

-- what is before its checksum, and between it and the entries
pub xsdt_front : ℕ → List ℕ
xsdt_front size = codes "XSDT" ++ (le 4 size ++ 1 ∷ [])

pub xsdt_middle : Oem → List ℕ
xsdt_middle oem = oem.id ++ (oem.table_id ++ (le 4 oem.revision ++ (codes "RVAT" ++ le 4 0x01000000)))

pub xsdt_is : (base : ℕ) (oem : Oem) (places : List ℕ) (front : List ℕ) → front ≡ xsdt_front (36 + 8 * length places)
    → bytes_of (listing base oem places)
    ≡ front ++ complement (sum (front ++ 0 ∷ (xsdt_middle oem ++ entries_of base places))) ∷ (xsdt_middle oem ++ entries_of base places)
unfolding xsdt_front xsdt_middle
xsdt_is base oem places front is =
    let body = entries_of base places in
    let rest = xsdt_middle oem ++ body in
    let shape : (size : ℕ) → with_checksum (xsdt_front size ++ 0 ∷ rest) ≡ xsdt_front size ++ complement (sum (xsdt_front size ++ 0 ∷ rest)) ∷ rest
    = λ size. with_sum 0 (xsdt_front size) rest refl in
    ap (λ n. with_checksum (xsdt_front (36 + n) ++ 0 ∷ rest)) (entries_size base places)
    ∙ shape (36 + 8 * length places)
    ∙ ap (λ f. f ++ complement (sum (f ++ 0 ∷ rest)) ∷ rest) (sym is)

pub front_size : (size : ℕ) → length (xsdt_front size) ≡ 9
unfolding xsdt_front
front_size size = refl

pub middle_size : (oem : Oem) → length oem.id ≡ 6 → length oem.table_id ≡ 8 → length (xsdt_middle oem) ≡ 26
unfolding xsdt_middle
middle_size oem six eight =
    let last : length (le 4 oem.revision ++ (codes "RVAT" ++ le 4 0x01000000)) ≡ 12 = refl in
    omega (
      arith,
      length-append oem.id (oem.table_id ++ (le 4 oem.revision ++ (codes "RVAT" ++ le 4 0x01000000))),
      length-append oem.table_id (le 4 oem.revision ++ (codes "RVAT" ++ le 4 0x01000000)),
      last,
      six,
      eight,
    )

pub xsdt_size : (oem : Oem) (c base : ℕ) (places front : List ℕ) → length front ≡ 9 → length oem.id ≡ 6 → length oem.table_id ≡ 8
    → length (front ++ c ∷ (xsdt_middle oem ++ entries_of base places)) ≡ 36 + 8 * length places
xsdt_size oem c base places front nine six eight = omega (
  arith,
  length-append front (c ∷ (xsdt_middle oem ++ entries_of base places)),
  length-append (xsdt_middle oem) (entries_of base places),
  entries_size base places,
  middle_size oem six eight,
  nine,
)

-- its length, as it is read
pub xsdt_tells : (base : ℕ) (oem : Oem) (places : List ℕ) → 36 + 8 * length places < 2 ^ 32
    → field_at 4 4 (bytes_of (listing base oem places)) ≡ 36 + 8 * length places
unfolding xsdt_front
xsdt_tells base oem places small =
    ap (field_at 4 4) (xsdt_is base oem places (xsdt_front (36 + 8 * length places)) refl) ∙ carried_le 4 (36 + 8 * length places) small

pub listing_size : (base : ℕ) (oem : Oem) (places : List ℕ) → length oem.id ≡ 6 → length oem.table_id ≡ 8
    → length (bytes_of (listing base oem places)) ≡ 36 + 8 * length places
listing_size base oem places six eight =
    let front = xsdt_front (36 + 8 * length places) in
    let body = xsdt_middle oem ++ entries_of base places in
    ap length (xsdt_is base oem places front refl)
    ∙ xsdt_size oem (complement (sum (front ++ 0 ∷ body))) base places front (front_size (36 + 8 * length places)) six eight

pub id_size : (fadt : List ℕ) → 148 ≤ length fadt → length (oem_of fadt).id ≡ 6
id_size fadt long = length-take-le 6 (drop 10 fadt) (omega (arith, length-drop 10 fadt, long))

pub table_id_size : (fadt : List ℕ) → 148 ≤ length fadt → length (oem_of fadt).table_id ≡ 8
table_id_size fadt long = length-take-le 8 (drop 16 fadt) (omega (arith, length-drop 16 fadt, long))

-- ---- all of them

-- the parts of the tables that the address doesn't change
pub record Parts (tables : Tables) : Type 0 where
  pub first : List ℕ
  pub between : List ℕ
  pub places : List ℕ
  pub last : List ℕ
  pub fadt_at : fadt_place tables ≡ length first
  pub xsdt_at : (base : ℕ) → xsdt_place base tables ≡ length first + length tables.fadt + length between
  pub count : length places ≡ 1 + length tables.others
  pub control : length (control_bytes tables.facs) ≤ length first
  pub below : AreBelow (length first + length tables.fadt + length between + 1) places
  pub are : (base : ℕ) → tables_at base tables
      ≡ first ++ (pointed base tables.facs tables.fadt ++ (between ++ (bytes_of (listing base (oem_of tables.fadt) places) ++ last)))
  pub size : (base : ℕ) → length (tables_at base tables) ≡ length first + length tables.fadt + length between + (36 + 8 * length places) + length last

module _ (tables : Tables) (long : 148 ≤ length tables.fadt) where
  abbrev oem : Oem
  oem = oem_of tables.fadt

  abbrev ahead : List ℕ
  ahead = control_bytes tables.facs ++ tables.dsdt

  abbrev first : List ℕ
  first = padded 8 ahead

  abbrev a : ℕ
  a = length first

  abbrev n : ℕ
  n = length tables.fadt

  abbrev more : List ℕ
  more = more_of (a + n) tables.others

  abbrev between : List ℕ
  between = more ++ zeros (gap 8 (a + n + length more))

  abbrev places : List ℕ
  places = a ∷ places_behind (a + n) tables.others

  abbrev last : List ℕ
  last = zeros (gap 16 (a + n + length between + (36 + 8 * length places)))

  module _ (base : ℕ) where
    abbrev f : List ℕ
    f = pointed base tables.facs tables.fadt

    abbrev x : List ℕ
    x = bytes_of (listing base oem places)

    abbrev l : Laid
    l = laid base tables

    abbrev start : Laid
    start = record { bytes = first ++ f; places = a ∷ [] }

    f_size : length f ≡ n
    f_size = pointing_size tables.fadt (fadt_parts tables.fadt long) (control_address base tables.facs) (base + length (control_bytes tables.facs))

    x_size : length x ≡ 36 + 8 * length places
    x_size = listing_size base oem places (id_size tables.fadt long) (table_id_size tables.fadt long)

    start_size : length (first ++ f) ≡ a + n
    start_size = length-append first f ∙ ap (λ k. a + k) f_size

    bytes_are : l.bytes ≡ (first ++ f) ++ more
    bytes_are = all_bytes tables.others start ∙ ap (λ k. (first ++ f) ++ more_of k tables.others) start_size

    places_are : l.places ≡ places
    places_are = all_places tables.others start ∙ ap (λ k. a ∷ places_behind k tables.others) start_size

    size : length l.bytes ≡ a + n + length more
    size = ap length bytes_are ∙ length-append (first ++ f) more ∙ ap (λ k. k + length more) start_size

    padding : padded 8 l.bytes ≡ first ++ (f ++ between)
    padding =
        ap (λ k. l.bytes ++ zeros (gap 8 k)) size ∙ ap (λ b. b ++ zeros (gap 8 (a + n + length more))) bytes_are
        ∙ append_assoc (first ++ f) more (zeros (gap 8 (a + n + length more))) ∙ append_assoc first f between

    padding_size : length (padded 8 l.bytes) ≡ a + n + length between
    padding_size = ap length padding ∙ omega (arith, length-append first (f ++ between), length-append f between, f_size)

    xsdt_behind : with_xsdt base oem l ≡ first ++ (f ++ (between ++ x))
    xsdt_behind =
        ap (λ b. b ++ bytes_of (listing base oem l.places)) padding
        ∙ ap (λ ps. (first ++ (f ++ between)) ++ bytes_of (listing base oem ps)) places_are
        ∙ append_assoc first (f ++ between) x ∙ ap (λ b. first ++ b) (append_assoc f between x)

    behind_size : length (with_xsdt base oem l) ≡ a + n + length between + (36 + 8 * length places)
    behind_size =
        ap length xsdt_behind ∙ omega (arith, length-append first (f ++ (between ++ x)), length-append f (between ++ x), length-append between x, f_size, x_size)

    all_are : tables_at base tables ≡ first ++ (f ++ (between ++ (x ++ last)))
    all_are =
        ap (λ k. with_xsdt base oem l ++ zeros (gap 16 k)) behind_size ∙ ap (λ b. b ++ last) xsdt_behind
        ∙ append_assoc first (f ++ (between ++ x)) last
        ∙ ap (λ b. first ++ b) (append_assoc f (between ++ x) last ∙ ap (λ b. f ++ b) (append_assoc between x last))

    all_size : length (tables_at base tables) ≡ a + n + length between + (36 + 8 * length places) + length last
    all_size =
        length-append (with_xsdt base oem l) (zeros (gap 16 (length (with_xsdt base oem l))))
        ∙ ap (λ k. k + length (zeros (gap 16 (length (with_xsdt base oem l))))) behind_size
        ∙ ap (λ k. a + n + length between + (36 + 8 * length places) + length (zeros (gap 16 k))) behind_size

  pub parts_of : Parts tables
  parts_of = record {
    first = first;
    between = between;
    places = places;
    last = last;
    fadt_at = refl;
    xsdt_at = padding_size;
    count = omega (arith, count_behind (a + n) tables.others);
    control = omega (arith, length-append (control_bytes tables.facs) tables.dsdt, length-append ahead (zeros (gap 8 (length ahead))));
    below = (
      omega arith,
      behind_below (a + n) (a + n + length between + 1) tables.others
          (omega (arith, length-append more (zeros (gap 8 (a + n + length more))))),
    );
    are = all_are;
    size = all_size;
  }
