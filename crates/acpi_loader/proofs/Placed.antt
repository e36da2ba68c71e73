-- The offsets of the tables that hold addresses, as they are found in the image and in the files.
use Rattle.std.proofs.Common.{◌≡◌, ℕ, ◌+◌, ◌-◌, ◌*◌, ◌/◌, ◌^◌, ◌<◌, ◌≤◌, List, [], ◌∷◌, ◌++◌, length, map, take, drop, get_or, Bool, true, false, if◌then◌else◌, refl, sym, ap, ◌∙◌, arith, append_assoc, length-append}
use Rattle.std.specs.Prelude.{codes, Option, Some, None}
use Rattle.std.specs.Option.{is_some}
use Rattle.std.proofs.lemmas.List.{at_drop_more, at_drop_all, length-replicate, take_at, drop_at, drop-append-le, take-append-le, length-drop, append-nil}
use Rattle.acpi_base.specs.Bytes.{le, carried, zeros, field_at}
use Rattle.acpi_base.proofs.Bytes.{carried_le, length_le}
use Rattle.acpi_layout.specs.Files.{has, named, if_some, others, oem_of, pointed as fadt_pointed, IsLaid}
use Rattle.acpi_layout.specs.Image.{gap, control_bytes, control_address, listing}
use Rattle.acpi_layout.specs.declared.layout.Image.{Image}
use Rattle.acpi_core.specs.Listing.{bytes_of}
use Rattle.acpi_loader.specs.Loader.{first_size, are_some, unsummed_tables, unsummed_rsdp, tables_file, rsdp_file, IsImageOf, IsSmallImage}
use Rattle.acpi_loader.specs.Places.{places_of}
use Rattle.acpi_loader.specs.Tables.{Tables, fadt_place, xsdt_place, tables_at, rsdp_at}
use Rattle.acpi_loader.proofs.Moves.{part_within}
use Rattle.acpi_loader.proofs.Pointers.{pointer_tells, pointer_size}
use Rattle.acpi_loader.proofs.Shapes.{Parts, parts_of, fadt_parts, pointing_size, listing_size, xsdt_tells, id_size, table_id_size}

-- ---- the files with a signature

-- a function of the files with a signature, which looks at the first
module _ {X : Type 0} (signature : List ℕ) (f : X → List ℕ) (xs : List X) (i : ℕ) (d : X) (inside : i < length xs) where
  named_at : named signature (map f (drop i xs)) ≡ (if has signature (f (get_or xs i d)) then f (get_or xs i d) ∷ named signature (map f (drop (i + 1) xs)) else named signature (map f (drop (i + 1) xs)))
  named_at = at_drop_more (λ l. named signature (map f l)) xs i d inside

  pub skipped : (has signature (f (get_or xs i d))) ≡ false → named signature (map f (drop i xs)) ≡ named signature (map f (drop (i + 1) xs))
  skipped not = named_at ∙ ap (λ (b : Bool). if b then f (get_or xs i d) ∷ named signature (map f (drop (i + 1) xs)) else named signature (map f (drop (i + 1) xs))) not

  pub found : (has signature (f (get_or xs i d))) ≡ true → named signature (map f (drop i xs)) ≡ f (get_or xs i d) ∷ named signature (map f (drop (i + 1) xs))
  found is = named_at ∙ ap (λ (b : Bool). if b then f (get_or xs i d) ∷ named signature (map f (drop (i + 1) xs)) else named signature (map f (drop (i + 1) xs))) is

pub none_left : {X : Type 0} (signature : List ℕ) (f : X → List ℕ) (xs : List X) (i : ℕ) → length xs ≤ i → named signature (map f (drop i xs)) ≡ []
none_left signature f xs i past = at_drop_all (λ l. named signature (map f l)) xs i past

size_if_some : (facs : Option (List ℕ)) → first_size (if_some facs) ≡ length (control_bytes facs)
size_if_some None = refl
size_if_some (Some facs) = refl

are_if_some : (facs : Option (List ℕ)) → are_some (if_some facs) ≡ is_some facs
are_if_some None = refl
are_if_some (Some facs) = refl

-- ---- what is read

-- what is known of an image, in numbers
pub record Numbers (files : List (List ℕ)) (image : Image) (tables : Tables) : Type 0 where
  pub facs : first_size (named (codes "FACS") files) ≡ length (control_bytes tables.facs)
  pub has_facs : are_some (named (codes "FACS") files) ≡ is_some tables.facs
  pub dsdt : first_size (named (codes "DSDT") files) ≡ length tables.dsdt
  pub fadt : first_size (named (codes "FACP") files) ≡ length tables.fadt
  pub place : fadt_place tables ≡ length (control_bytes tables.facs) + length tables.dsdt + gap 8 (length (control_bytes tables.facs) + length tables.dsdt)
  pub before : length (control_bytes tables.facs) + length tables.dsdt ≤ fadt_place tables
  pub size : length image.bytes.items ≡ image.rsdp + 36
  pub small : image.rsdp + 36 < 2 ^ 32
  pub inside : fadt_place tables + length tables.fadt ≤ xsdt_place 0 tables
  pub ends : xsdt_place 0 tables + (36 + 8 * (1 + length tables.others)) ≤ image.rsdp
  pub xsdt : field_at (image.rsdp + 24) 8 image.bytes.items ≡ xsdt_place 0 tables
  pub tells : field_at (xsdt_place 0 tables + 4) 4 image.bytes.items ≡ 36 + 8 * (1 + length tables.others)

at_least : (n g p : ℕ) → p ≡ n + g → n ≤ p
at_least n g p is = omega (arith, is)

pub numbers : (files : List (List ℕ)) (image : Image) (tables : Tables) → IsImageOf files image tables → Numbers files image tables
numbers files image tables of =
    let long = of.are.has_fields in
    let s = parts_of tables long in
    let oem = oem_of tables.fadt in
    let six = id_size tables.fadt long in
    let eight = table_id_size tables.fadt long in
    let ahead = control_bytes tables.facs ++ tables.dsdt in
    let both : length ahead ≡ length (control_bytes tables.facs) + length tables.dsdt = length-append (control_bytes tables.facs) tables.dsdt in
    let r = rsdp_at 0 tables in
    let rest = pointer_size oem.id six (0 + xsdt_place 0 tables) in
    let t = tables_at 0 tables in
    let all : length image.bytes.items ≡ image.rsdp + 36
    = ap length of.bytes ∙ omega (arith, length-append t r, rest, of.rsdp) in
    let low : image.rsdp + 36 < 2 ^ 32 = omega (arith, of.small, of.rsdp, rest) in
    let ends : xsdt_place 0 tables + (36 + 8 * (1 + length tables.others)) ≤ image.rsdp
    = omega (arith, of.rsdp, s.size 0, s.xsdt_at 0, s.count) in
    let f = fadt_pointed 0 tables.facs tables.fadt in
    let xsdt = bytes_of (listing 0 oem s.places) in
    let before = s.first ++ (f ++ s.between) in
    let f_size : length f ≡ length tables.fadt
    = pointing_size tables.fadt (fadt_parts tables.fadt long) (control_address 0 tables.facs) (0 + length (control_bytes tables.facs)) in
    let at : length before ≡ xsdt_place 0 tables
    = omega (arith, length-append s.first (f ++ s.between), length-append f s.between, f_size, s.xsdt_at 0) in
    let cut : image.bytes.items ≡ before ++ (xsdt ++ (s.last ++ r))
    = of.bytes ∙ ap (λ l. l ++ r) (s.are 0) ∙ append_assoc s.first (f ++ (s.between ++ (xsdt ++ s.last))) r
    ∙ ap (λ l. s.first ++ l) (append_assoc f (s.between ++ (xsdt ++ s.last)) r
    ∙ ap (λ l. f ++ l) (append_assoc s.between (xsdt ++ s.last) r ∙ ap (λ l. s.between ++ l) (append_assoc xsdt s.last r)))
    ∙ sym (append_assoc s.first (f ++ s.between) (xsdt ++ (s.last ++ r)) ∙ ap (λ l. s.first ++ l) (append_assoc f s.between (xsdt ++ (s.last ++ r)))) in
    let length_there : 8 ≤ length xsdt = omega (arith, listing_size 0 oem s.places six eight) in
    let place : fadt_place tables ≡ length (control_bytes tables.facs) + length tables.dsdt + gap 8 (length (control_bytes tables.facs) + length tables.dsdt)
    = length-append ahead (zeros (gap 8 (length ahead))) ∙ ap (λ n. length ahead + n) (length-replicate {A = ℕ} (gap 8 (length ahead)) 0)
    ∙ ap (λ n. n + gap 8 n) both in
    record {
      facs = ap first_size of.are.main.facs_is ∙ size_if_some tables.facs;
      has_facs = ap are_some of.are.main.facs_is ∙ are_if_some tables.facs;
      dsdt = ap first_size of.are.main.dsdt_is;
      fadt = ap first_size of.are.main.fadt_is;
      place = place;
      before = at_least (length (control_bytes tables.facs) + length tables.dsdt) _ (fadt_place tables) place;
      size = all;
      small = low;
      inside = omega (arith, s.fadt_at, s.xsdt_at 0);
      ends = ends;
      xsdt = ap (λ n. field_at (n + 24) 8 image.bytes.items) of.rsdp ∙ ap (field_at (length t + 24) 8) of.bytes
          ∙ ap carried (ap (λ l. take 8 (drop (length t + 24) (t ++ l))) (sym (append-nil r)) ∙ part_within (length t) 24 8 t r [] refl (omega (arith, rest)))
          ∙ pointer_tells oem.id six (0 + xsdt_place 0 tables) (omega (arith, ends, low)) ∙ omega arith;
      tells = ap (field_at (xsdt_place 0 tables + 4) 4) cut
          ∙ ap carried (part_within (xsdt_place 0 tables) 4 4 before xsdt (s.last ++ r) at length_there)
          ∙ xsdt_tells 0 oem s.places (omega (arith, ends, low, s.count)) ∙ ap (λ n. 36 + 8 * n) s.count;
    }

-- ---- the numbers in the code

module _ (files : List (List ℕ)) (image : Image) (tables : Tables) (k : Numbers files image tables) where
  pub before_fits : (a b : ℕ) → a ≡ first_size (named (codes "FACS") files) → b ≡ first_size (named (codes "DSDT") files) → a + b < 2 ^ 32
  before_fits a b first second = omega (arith, first, second, k.facs, k.dsdt, k.before, k.inside, k.ends, k.small)

  pub start_is : (a b start : ℕ) → a ≡ first_size (named (codes "FACS") files) → b ≡ first_size (named (codes "DSDT") files)
      → start ≡ a + b + gap 8 (a + b) → start ≡ fadt_place tables
  start_is a b start first second is =
      let both : a + b ≡ length (control_bytes tables.facs) + length tables.dsdt = omega (arith, first, second, k.facs, k.dsdt) in
      is ∙ ap (λ n. n + gap 8 n) both ∙ sym k.place

  pub start_fits : fadt_place tables < 2 ^ 32
  start_fits = omega (arith, k.inside, k.ends, k.small)

  pub fadt_fits : (n : ℕ) → n ≡ first_size (named (codes "FACP") files) → n < 2 ^ 32
  fadt_fits n is = omega (arith, is, k.fadt, k.inside, k.ends, k.small)

  module _ (bytes : List ℕ) (are : bytes ≡ image.bytes.items) where
    pub address_inside : image.rsdp + 24 + 8 ≤ length bytes
    address_inside = omega (arith, ap length are, k.size)

    module _ (xsdt : ℕ) (read : xsdt ≡ field_at (image.rsdp + 24) 8 bytes) where
      pub xsdt_is : xsdt ≡ xsdt_place 0 tables
      xsdt_is = read ∙ ap (field_at (image.rsdp + 24) 8) are ∙ k.xsdt

      pub xsdt_fits : xsdt < 2 ^ 32
      xsdt_fits = omega (arith, xsdt_is, k.ends, k.small)

      pub length_inside : xsdt + 4 + 4 ≤ length bytes
      length_inside = omega (arith, ap length are, k.size, xsdt_is, k.ends)

      pub size_is : (size : ℕ) → size ≡ field_at (xsdt + 4) 4 bytes → size ≡ 36 + 8 * (1 + length tables.others)
      size_is size told = told ∙ ap (λ n. field_at (n + 4) 4 bytes) xsdt_is ∙ ap (field_at (xsdt_place 0 tables + 4) 4) are ∙ k.tells

  pub placed_is : (has : Bool) (start fadt xsdt size count : ℕ) → has ≡ are_some (named (codes "FACS") files) → start ≡ fadt_place tables
      → fadt ≡ first_size (named (codes "FACP") files) → xsdt ≡ xsdt_place 0 tables → size ≡ 36 + 8 * (1 + length tables.others)
      → count ≡ (size - 36) / 8
      → record { has_facs = has; fadt = start; fadt_size = fadt; xsdt = xsdt; count = count } ≡ places_of tables
  placed_is has start fadt xsdt size count one two three four five six =
      let all : count ≡ 1 + length tables.others = omega (arith, five, six) in
      rw (one ∙ k.has_facs, two, three ∙ k.fadt, four, all) refl

  -- ---- the files

  module _ (bytes : List ℕ) (are : bytes ≡ image.bytes.items) (of : IsImageOf files image tables) where
    pub tables_are : (fadt xsdt : ℕ) → fadt ≡ fadt_place tables → xsdt ≡ xsdt_place 0 tables
        → unsummed_tables fadt xsdt (take image.rsdp bytes) ≡ tables_file tables
    tables_are fadt xsdt one two =
        let front : take image.rsdp bytes ≡ tables_at 0 tables
        = ap (take image.rsdp) (are ∙ of.bytes) ∙ take_at (tables_at 0 tables) (rsdp_at 0 tables) image.rsdp (sym of.rsdp) in
        rw (one, two, front) refl

    pub rsdp_is : unsummed_rsdp (drop image.rsdp bytes) ≡ rsdp_file tables
    rsdp_is = ap unsummed_rsdp (ap (drop image.rsdp) (are ∙ of.bytes) ∙ drop_at (tables_at 0 tables) (rsdp_at 0 tables) image.rsdp (sym of.rsdp))

    pub rsdp_before : image.rsdp ≤ length bytes
    rsdp_before = omega (arith, ap length are, k.size)

    pub rsdp_inside : image.rsdp + 36 ≤ length bytes
    rsdp_inside = omega (arith, ap length are, k.size)

  pub fadt_inside : (fadt : ℕ) → 148 ≤ length tables.fadt → fadt ≡ fadt_place tables → (fadt + 10 ≤ image.rsdp) × (fadt + 148 < 2 ^ 32)
  fadt_inside fadt long is = (omega (arith, is, long, k.inside, k.ends), omega (arith, is, long, k.inside, k.ends, k.small))

  pub xsdt_inside : (xsdt count : ℕ) → xsdt ≡ xsdt_place 0 tables → count ≡ 1 + length tables.others
      → (xsdt + 10 ≤ image.rsdp) × (xsdt + 36 + 8 * count < 2 ^ 32)
  xsdt_inside xsdt count is all = (omega (arith, is, k.ends), omega (arith, is, all, k.ends, k.small))

-- ---- what was laid

pub small_image : (files : List (List ℕ)) (image : Image) → IsLaid 0 files image → length image.bytes.items < 2 ^ 32 → IsSmallImage files image
small_image files image laid low =
    let tables : Tables = record { facs = laid.facs; dsdt = laid.dsdt; fadt = laid.fadt; others = others files } in (
      tables,
      record {
        are = record { main = laid.main; others = refl; has_fields = laid.has_fields };
        bytes = laid.bytes;
        rsdp = omega (arith, laid.rsdp);
        small = omega (arith, ap length laid.bytes, length-append (tables_at 0 tables) (rsdp_at 0 tables), low);
      },
    )
