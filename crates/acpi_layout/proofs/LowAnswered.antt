-- What laying with an RSDT returns.
use Rattle.std.proofs.Common.{◌≡◌, ◌≢◌, ℕ, ◌+◌, ◌*◌, ◌^◌, ◌<◌, ◌≤◌, List, [], ◌∷◌, ◌++◌, length, map, Bool, false, Some, None, refl, sym, ap, subst, ◌∙◌, arith, length-append}
use Rattle.std.specs.Prelude.{Result, IsErrAnd, Option}
use Rattle.std.proofs.lemmas.List.{length-map}
use Rattle.std.proofs.lemmas.Result.{err_from_is_err_and}
use Rattle.std.proofs.lemmas.Bool.Decides.{nat_tests}
use Rattle.acpi_base.specs.declared.error.Error.{Error}
use Rattle.acpi_base.specs.declared.error.Error.TheVariants.{Memory}
use Rattle.acpi_base.specs.declared.oem.Oem.{Oem}
use Rattle.acpi_base.specs.Object.{Object, all_of, IsOwnEnd}
use Rattle.acpi_base.proofs.Tables.{length-with_checksum}
use Rattle.acpi_base.specs.Header.{header}
use Rattle.acpi_core.specs.Listing.{body_of, bytes_of}
use Rattle.acpi_fixed.specs.declared.fadt.FADTBuilder.{FADTBuilder}
use Rattle.acpi_fixed.specs.Fadt.{fadt_bytes, builder_bytes, header_fields, fadt_fields}
use Rattle.acpi_base.specs.Fields.{fields_joined}
use Rattle.acpi_layout.specs.declared.rsdt.RsdtImage.{RsdtImage}
use Rattle.acpi_layout.specs.declared.rsdt_fault.RsdtFault.{RsdtFault}
use Rattle.acpi_layout.specs.declared.rsdt_fault.RsdtFault.TheVariants.{Table, NotLow}
use Rattle.acpi_layout.specs.Image.{Laid, padded, all_placed, placed, control_bytes, fronts, Places}
use Rattle.acpi_layout.specs.Rsdt.{low_fadt, low_listing, low_laid, with_rsdt, low_pointer, low_bytes, are_low, is_apart, place_fault, fault_or, low_fault, LaysLow}
use Rattle.acpi_layout.proofs.Answered.{places_counted}
use Rattle.acpi_layout.proofs.Low.{size_low}
use Rattle.acpi_layout.proofs.Standing.{length-padded}

-- ---- faults

no_fault : (end : Option Error) (fault : Option RsdtFault) → end ≡ None → fault ≡ None → fault_or end fault ≡ None
no_fault end fault is_whole is = rw is_whole is

own_fault : (end : Option Error) (fault : Option RsdtFault) (e : Error) → end ≡ Some e → fault_or end fault ≡ Some (Table e)
own_fault end fault e is = rw is refl

place_is_fault : (end : Option Error) (fault : Option RsdtFault) (e : RsdtFault) → end ≡ None → fault ≡ Some e → fault_or end fault ≡ Some e
place_is_fault end fault e is_whole is = rw is_whole is

high_is : (base rsdp size : ℕ) → 2 ^ 32 < base + size → are_low base rsdp size ≡ false
high_is base rsdp size high = grind (arith, nat_tests, high)

high_fault : (low apart : Bool) → low ≡ false → place_fault low apart ≡ Some NotLow
high_fault low apart is = rw is refl

-- a refusal
pub low_refused : (base rsdp : ℕ) (oem : Oem) (facs : Option (List ℕ)) (dsdt : List ℕ) (fadt : FADTBuilder) (tables : List Object) (r : Result RsdtImage RsdtFault) (e : RsdtFault)
    → IsErrAnd r (λ y. y ≡ e) → (e ≢ Table Memory → low_fault base rsdp oem facs dsdt fadt tables ≡ Some e) → LaysLow r base rsdp oem facs dsdt fadt tables
low_refused base rsdp oem facs dsdt fadt tables r e is cause = let p = err_from_is_err_and r is in rw (p.1, p.2) (record { bytes = tt; pointer = tt; accepted = tt; cause = cause })

-- memory ran out
pub low_memory : (base rsdp : ℕ) (oem : Oem) (facs : Option (List ℕ)) (dsdt : List ℕ) (fadt : FADTBuilder) (tables : List Object) (r : Result RsdtImage RsdtFault) (e : Error)
    → IsErrAnd r (λ y. y ≡ Table e) → e ≡ Memory → LaysLow r base rsdp oem facs dsdt fadt tables
low_memory base rsdp oem facs dsdt fadt tables r e is memory =
    low_refused base rsdp oem facs dsdt fadt tables r (Table e) is (λ other. absurd (other (ap (λ x. Table x) memory)))

-- a table has an error
pub low_own : (base rsdp : ℕ) (oem : Oem) (facs : Option (List ℕ)) (dsdt : List ℕ) (fadt : FADTBuilder) {X : Type 0} (f : X → Object) (xs ys : List X) → ys ≡ xs
    → (r : Result RsdtImage RsdtFault) (e : Error) → IsErrAnd r (λ y. y ≡ Table e) → IsOwnEnd e (all_of (map f ys)) → LaysLow r base rsdp oem facs dsdt fadt (map f xs)
low_own base rsdp oem facs dsdt fadt f xs ys read r e is own =
    let size = length (low_bytes base oem facs dsdt fadt (fronts (map f xs))) in
    let here : IsOwnEnd e (all_of (map f xs)) = subst (λ zs. IsOwnEnd e (all_of (map f zs))) read own in
    low_refused base rsdp oem facs dsdt fadt (map f xs) r (Table e) is
    (λ other. own_fault (all_of (map f xs)).end (place_fault (are_low base rsdp size) (is_apart base rsdp size)) e (here.cause (λ memory. other (ap (λ x. Table x) memory))))

-- ---- there are bytes before the RSDT

pub longer : (tables : List (List ℕ)) (laid : Laid) → length laid.bytes ≤ length (all_placed tables laid).bytes
longer [] laid = omega arith
longer (t ∷ tables) laid = omega (arith, longer tables (placed t laid), length-append (padded 8 laid.bytes) t, length-padded 8 laid.bytes)

fadt_has_bytes : (f : FADTBuilder) → 240 ≤ length (fadt_bytes f)
fadt_has_bytes f =
    let rest : length (fields_joined (fadt_fields f)) ≡ 240 = refl in
    let size = length-append (fields_joined (header_fields f)) (fields_joined (fadt_fields f)) in
    omega (arith, size, rest, length-with_checksum (builder_bytes f) (omega (arith, size, rest)))

-- the FADT is before the RSDT
pub fadt_is_before : (base : ℕ) (facs : Option (List ℕ)) (dsdt : List ℕ) (fadt : FADTBuilder) (tables : List (List ℕ)) → 240 ≤ length (low_laid base facs dsdt fadt tables).bytes
fadt_is_before base facs dsdt fadt tables =
    let one = length-append (padded 8 (control_bytes facs ++ dsdt)) (fadt_bytes (low_fadt base facs fadt)) in
    omega (arith, fadt_has_bytes (low_fadt base facs fadt), one, longer tables (low_laid base facs dsdt fadt []))

list_is_long : (base : ℕ) (oem : Oem) (places : List ℕ) → 10 ≤ 4 * length places → 4 * length places ≤ length (bytes_of (low_listing base oem places))
list_is_long base oem places long =
    let t = low_listing base oem places in
    let head = header t.signature (36 + length (body_of t)) t.revision t.oem in
    let body : length (body_of t) ≡ 4 * length places = omega (arith, size_low base oem places) in
    omega (arith, body, length-append head (body_of t), length-with_checksum (head ++ body_of t) (omega (arith, long, body, length-append head (body_of t))))

-- Slices of what vectors hold are that, and the steps' results are in their terms.
module _ (base rsdp : ℕ) (oem : Oem) (facs : Option (List ℕ)) (dsdt : List ℕ) (fadt : FADTBuilder) {X : Type 0} (f : X → Object) (xs ys : List X) (read : ys ≡ xs) (start : Laid)
    (first : start ≡ low_laid base facs dsdt fadt []) (bytes places places' : List ℕ) (read' : places' ≡ places) (all : Places (map f ys) start (record { bytes = bytes; places = places })) where
  all_is : Places (map f xs) start (record { bytes = bytes; places = places' })
  all_is = rw (read', ← read) all

  laid_is : record { bytes = bytes; places = places' } ≡ low_laid base facs dsdt fadt (fronts (map f xs))
  laid_is = all_is.laid ∙ ap (all_placed (fronts (map f xs))) first

  counted : length places' ≡ 1 + length (map f xs)
  counted =
      let one : length (low_laid base facs dsdt fadt []).places ≡ 1 = omega arith in
      omega (arith, ap (λ (l : Laid). length l.places) laid_is, places_counted (fronts (map f xs)) (low_laid base facs dsdt fadt []), one, length-map (map f xs) (λ (o : Object). o.front))

  -- the RSDT has more entries than fit below 4 GiB
  pub too_many : 2 ^ 32 ≤ 36 + 4 * length places' → low_fault base rsdp oem facs dsdt fadt (map f xs) ≡ Some NotLow
  too_many many =
      let tables = fronts (map f xs) in
      let laid = low_laid base facs dsdt fadt tables in
      let size = length (low_bytes base oem facs dsdt fadt tables) in
      let same : laid.places ≡ places' = ap (λ (l : Laid). l.places) (sym laid_is) in
      let list = list_is_long base oem laid.places (omega (arith, many, ap length same)) in
      let high : 2 ^ 32 < base + size =
      omega (arith, many, list, ap length same, fadt_is_before base facs dsdt fadt tables, length-padded 8 laid.bytes, length-append (padded 8 laid.bytes) (bytes_of (low_listing base oem laid.places))) in
      place_is_fault (all_of (map f xs)).end (place_fault (are_low base rsdp size) (is_apart base rsdp size)) NotLow all_is.are_whole
      (high_fault (are_low base rsdp size) (is_apart base rsdp size) (high_is base rsdp size high))

  module _ (made : List ℕ) (is : made ≡ with_rsdt base oem (record { bytes = bytes; places = places' })) where
    pub bytes_are : made ≡ low_bytes base oem facs dsdt fadt (fronts (map f xs))
    bytes_are = is ∙ ap (with_rsdt base oem) laid_is

    pub pointer_is : (pointer : List ℕ) → pointer ≡ low_pointer base oem (record { bytes = bytes; places = places' }) → pointer ≡ low_pointer base oem (low_laid base facs dsdt fadt (fronts (map f xs)))
    pointer_is pointer at = at ∙ ap (low_pointer base oem) laid_is

    pub places_refused : (n : ℕ) (e : RsdtFault) → n ≡ length made → place_fault (are_low base rsdp n) (is_apart base rsdp n) ≡ Some e
        → low_fault base rsdp oem facs dsdt fadt (map f xs) ≡ Some e
    places_refused n e size fault =
        let told : n ≡ length (low_bytes base oem facs dsdt fadt (fronts (map f xs))) = size ∙ ap length bytes_are in
        let m = length (low_bytes base oem facs dsdt fadt (fronts (map f xs))) in
        place_is_fault (all_of (map f xs)).end (place_fault (are_low base rsdp m) (is_apart base rsdp m)) e all_is.are_whole
        (ap (λ k. place_fault (are_low base rsdp k) (is_apart base rsdp k)) (sym told) ∙ fault)

    pub places_accepted : (n : ℕ) → n ≡ length made → place_fault (are_low base rsdp n) (is_apart base rsdp n) ≡ None
        → low_fault base rsdp oem facs dsdt fadt (map f xs) ≡ None
    places_accepted n size fault =
        let told : n ≡ length (low_bytes base oem facs dsdt fadt (fronts (map f xs))) = size ∙ ap length bytes_are in
        let m = length (low_bytes base oem facs dsdt fadt (fronts (map f xs))) in
        no_fault (all_of (map f xs)).end (place_fault (are_low base rsdp m) (is_apart base rsdp m)) all_is.are_whole
        (ap (λ k. place_fault (are_low base rsdp k) (is_apart base rsdp k)) (sym told) ∙ fault)
