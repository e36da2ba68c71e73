-- What laying returns.
use Rattle.std.proofs.Common.{◌≡◌, ◌≢◌, ℕ, ◌+◌, ◌*◌, ◌^◌, ◌<◌, ◌≤◌, List, [], ◌∷◌, length, map, nat_lt, Bool, true, false, Some, None, refl, sym, ap, ◌∙◌, arith, length-append}
use Rattle.std.specs.Prelude.{◌&&◌, Result, IsErrAnd, Option}
use Rattle.std.proofs.lemmas.List.{length-map}
use Rattle.std.proofs.lemmas.Result.{err_from_is_err_and}
use Rattle.std.proofs.lemmas.Bool.Decides.{nat_tests}
use Rattle.acpi_base.specs.declared.error.Error.{Error}
use Rattle.acpi_base.specs.declared.error.Error.TheVariants.{Memory, FieldWidth}
use Rattle.acpi_base.specs.declared.oem.Oem.{Oem}
use Rattle.acpi_base.specs.Object.{Object, all_of, IsOwnEnd}
use Rattle.acpi_fixed.specs.declared.fadt.FADTBuilder.{FADTBuilder}
use Rattle.acpi_layout.specs.declared.layout.Image.{Image}
use Rattle.acpi_layout.specs.Image.{Laid, padded, all_placed, placed, tables_laid, with_pointer, image, fronts, has_place, end_or, image_end, Places}
use Rattle.acpi_layout.specs.Lays.{Lays}

pub places_counted : (tables : List (List ℕ)) (laid : Laid) → length (all_placed tables laid).places ≡ length laid.places + length tables
places_counted [] laid = omega arith
places_counted (t ∷ tables) laid = omega (arith, places_counted tables (placed t laid), length-append laid.places (length (padded 8 laid.bytes) ∷ []))

pub fits_is : (base size tables : ℕ) → base + size ≤ 2 ^ 64 → 36 + 8 * (1 + tables) < 2 ^ 32 → nat_lt (base + size) (2 ^ 64 + 1) && nat_lt (36 + 8 * (1 + tables)) (2 ^ 32) ≡ true
fits_is base size tables low few = grind (arith, nat_tests, low, few)

pub past_is : (base size tables : ℕ) → 2 ^ 64 < base + size → nat_lt (base + size) (2 ^ 64 + 1) && nat_lt (36 + 8 * (1 + tables)) (2 ^ 32) ≡ false
past_is base size tables high = grind (arith, nat_tests, high)

pub many_is : (base size tables : ℕ) → 2 ^ 32 ≤ 36 + 8 * (1 + tables) → nat_lt (base + size) (2 ^ 64 + 1) && nat_lt (36 + 8 * (1 + tables)) (2 ^ 32) ≡ false
many_is base size tables many = grind (arith, nat_tests, many)

end_is : (end : Option Error) (fits : Bool) → end ≡ None → fits ≡ true → end_or end fits ≡ None
end_is end fits is_whole holds = rw (is_whole, holds) refl

end_no_place : (end : Option Error) (fits : Bool) → end ≡ None → fits ≡ false → end_or end fits ≡ Some FieldWidth
end_no_place end fits is_whole fails = rw (is_whole, fails) refl

end_own : (end : Option Error) (fits : Bool) (e : Error) → end ≡ Some e → end_or end fits ≡ Some e
end_own end fits e is = rw is refl

module _ (base : ℕ) (oem : Oem) (facs : Option (List ℕ)) (dsdt : List ℕ) (fadt : FADTBuilder) (tables : List Object) where
  -- a refusal
  pub refused : (r : Result Image Error) (e : Error) → IsErrAnd r (λ y. y ≡ e) → (e ≢ Memory → image_end base oem facs dsdt fadt tables ≡ Some e) → Lays r base oem facs dsdt fadt tables
  refused r e is cause = let p = err_from_is_err_and r is in rw (p.1, p.2) (record { bytes = tt; rsdp = tt; accepted = tt; cause = cause })

  pub out_of_memory : (e : Error) → e ≡ Memory → e ≢ Memory → image_end base oem facs dsdt fadt tables ≡ Some e
  out_of_memory e is other = absurd (other is)

  pub table_refused : (e : Error) → IsOwnEnd e (all_of tables) → e ≢ Memory → image_end base oem facs dsdt fadt tables ≡ Some e
  table_refused e own other = end_own (all_of tables).end (has_place base (image base oem facs dsdt fadt (fronts tables)) (length tables)) e (own.cause other)

-- Slices of what vectors hold are that, and the steps' results are in their terms.
module _ (base : ℕ) (oem : Oem) (facs : Option (List ℕ)) (dsdt : List ℕ) (fadt : FADTBuilder) {X : Type 0} (f : X → Object) (xs ys : List X) (read : ys ≡ xs) (start : Laid)
    (first : start ≡ tables_laid base facs dsdt fadt []) (bytes places places' : List ℕ) (read' : places' ≡ places) (all : Places (map f ys) start (record { bytes = bytes; places = places })) where
  all_is : Places (map f xs) start (record { bytes = bytes; places = places' })
  all_is = rw (read', ← read) all

  laid_is : record { bytes = bytes; places = places' } ≡ tables_laid base facs dsdt fadt (fronts (map f xs))
  laid_is = all_is.laid ∙ ap (all_placed (fronts (map f xs))) first

  counted : length places' ≡ 1 + length (map f xs)
  counted =
      let one : length (tables_laid base facs dsdt fadt []).places ≡ 1 = omega arith in
      omega (arith, ap (λ (l : Laid). length l.places) laid_is, places_counted (fronts (map f xs)) (tables_laid base facs dsdt fadt []), one, length-map (map f xs) (λ (o : Object). o.front))

  pub too_many : (e : Error) → (e ≡ FieldWidth) × (2 ^ 32 ≤ 36 + 8 * length places') → image_end base oem facs dsdt fadt (map f xs) ≡ Some e
  too_many e is =
      let p = image base oem facs dsdt fadt (fronts (map f xs)) in
      end_no_place (all_of (map f xs)).end (has_place base p (length (map f xs))) all_is.are_whole (many_is base (length p.bytes) (length (map f xs)) (omega (arith, is.1, counted)))
      ∙ ap (λ x. Some x) (sym is.0)

  module _ (made : List ℕ) (is : made ≡ (with_pointer base oem (record { bytes = bytes; places = places' })).bytes) where
    pub bytes_are : made ≡ (image base oem facs dsdt fadt (fronts (map f xs))).bytes
    bytes_are = is ∙ ap (λ l. (with_pointer base oem l).bytes) laid_is

    pub past_the_end : 2 ^ 64 < base + length made → image_end base oem facs dsdt fadt (map f xs) ≡ Some FieldWidth
    past_the_end high =
        let p = image base oem facs dsdt fadt (fronts (map f xs)) in
        end_no_place (all_of (map f xs)).end (has_place base p (length (map f xs))) all_is.are_whole (past_is base (length p.bytes) (length (map f xs)) (omega (arith, high, ap length bytes_are)))

    pub accepted_is : base + length made ≤ 2 ^ 64 → 36 + 8 * length places' < 2 ^ 32 → image_end base oem facs dsdt fadt (map f xs) ≡ None
    accepted_is low few =
        let p = image base oem facs dsdt fadt (fronts (map f xs)) in
        end_is (all_of (map f xs)).end (has_place base p (length (map f xs))) all_is.are_whole
        (fits_is base (length p.bytes) (length (map f xs)) (omega (arith, low, ap length bytes_are)) (omega (arith, few, counted)))

    pub rsdp_is : (rsdp : ℕ) → (base + length made ≤ 2 ^ 64 → rsdp ≡ (with_pointer base oem (record { bytes = bytes; places = places' })).rsdp) → base + length made ≤ 2 ^ 64
        → rsdp ≡ (image base oem facs dsdt fadt (fronts (map f xs))).rsdp
    rsdp_is rsdp at low = at low ∙ ap (λ l. (with_pointer base oem l).rsdp) laid_is
