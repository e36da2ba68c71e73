-- Files that are laid.
use Rattle.std.proofs.Common.{◌≡◌, ℕ, ◌+◌, ◌*◌, ◌^◌, ◌<◌, ◌≤◌, List, [], ◌∷◌, ◌++◌, length, map, take, get_or, Bool, true, false, refl, sym, ap, subst, ◌∙◌, arith, cond}
use Rattle.std.specs.Prelude.{Option, Some, None, not, ◌≢◌, Result, IsErrAnd, IfErr}
use Rattle.std.specs.Option.{is_some, option_map}
use Rattle.std.proofs.lemmas.List.{map_more, length-map, take-map, get_or-map, append-nil}
use Rattle.std.proofs.lemmas.List.Elements.{filter_more}
use Rattle.acpi_base.specs.declared.error.Error.{Error}
use Rattle.acpi_base.specs.declared.error.Error.TheVariants.{Memory}
use Rattle.acpi_base.specs.declared.oem.Oem.{Oem}
use Rattle.acpi_base.specs.Bytes.{le, put, zeros}
use Rattle.acpi_base.specs.Table.{with_checksum}
use Rattle.acpi_layout.specs.Image.{Laid, placed, all_placed, control_bytes, control_address, with_pointer, has_place}
use Rattle.acpi_layout.specs.Files.{has, named, pointing, pointed, oem_of, files_laid, files_image, if_some, others, Main, IsSecond, IsLayFault, no_space}
use Rattle.acpi_layout.specs.declared.lay_fault.LayFault.{LayFault}
use Rattle.acpi_layout.specs.declared.lay_fault.LayFault.TheVariants as faults
use Rattle.acpi_layout.proofs.Founds.{at_exit}
use Rattle.acpi_layout.proofs.Images.{all_placed_push}
use Rattle.acpi_layout.proofs.Answered.{places_counted, fits_is, past_is, many_is}

-- one table more
pub files_next : {X : Type 0} (f : X → List ℕ) (xs : List X) (i : ℕ) (d : X) (start old new : Laid) → i < length xs
    → old ≡ all_placed (map f (take i xs)) start → new ≡ all_placed (f (get_or xs i d) ∷ []) old → new ≡ all_placed (map f (take (i + 1) xs)) start
files_next f xs i d start old new inside before one =
    let x = f (get_or xs i d) in
    one ∙ ap (placed x) before ∙ sym (all_placed_push (map f (take i xs)) x start) ∙ ap (λ ts. all_placed ts start) (sym (map_more f xs i d inside))

-- a FADT that points to an address of these bytes
pointing_same : (at d k : ℕ) (fadt : List ℕ) → le 8 d ≡ le 8 k → pointing at d fadt ≡ pointing at k fadt
pointing_same at d k fadt same = ap (λ q. with_checksum (put 140 q (put 132 (le 8 at) (put 36 (zeros 8) fadt)))) same

-- the FACS if there is one, the DSDT and the FADT
pub begun_is : (base d n at : ℕ) (facs : Option (List ℕ)) (dsdt fadt b1 p b2 points : List ℕ) (new : Laid) → at ≡ control_address base facs → b1 ≡ control_bytes facs
    → p ≡ [] → n ≡ length b1 → le 8 d ≡ le 8 (base + n) → b2 ≡ b1 ++ dsdt → points ≡ pointing at d fadt
    → new ≡ all_placed (points ∷ []) (record { bytes = b2; places = p }) → new ≡ files_laid base facs dsdt fadt []
begun_is base d n at facs dsdt fadt b1 p b2 points new at_is first none size address second made last =
    let front = control_bytes facs in
    let told : le 8 d ≡ le 8 (base + length front) = address ∙ ap (λ k. le 8 (base + k)) (size ∙ ap length first) in
    let is : points ≡ pointed base facs fadt =
    made ∙ ap (λ a. pointing a d fadt) at_is ∙ pointing_same (control_address base facs) d (base + length front) fadt told in
    last ∙ ap (λ t. placed t (record { bytes = b2; places = p })) is
    ∙ ap (λ b. placed (pointed base facs fadt) (record { bytes = b; places = p })) (second ∙ ap (λ b. b ++ dsdt) first)
    ∙ ap (λ q. placed (pointed base facs fadt) (record { bytes = front ++ dsdt; places = q })) none

-- ---- the files with a signature

module _ {X : Type 0} (signature : List ℕ) (f : X → List ℕ) (xs : List X) (i : ℕ) (d : X) (inside : i < length xs) where
  named_next : named signature (map f (take (i + 1) xs)) ≡ named signature (map f (take i xs)) ++ cond (has signature (f (get_or xs i d))) (f (get_or xs i d) ∷ []) []
  named_next =
      let all = map f xs in
      let there : i < length all = omega (arith, length-map xs f, inside) in
      ap (named signature) (sym (take-map f (i + 1) xs)) ∙ filter_more (has signature) all i [] there
      ∙ ap (λ l. named signature l ++ cond (has signature (get_or all i [])) (get_or all i [] ∷ []) []) (take-map f i xs)
      ∙ ap (λ x. named signature (map f (take i xs)) ++ cond (has signature x) (x ∷ []) []) (get_or-map f xs i d [] inside)

  pub not_named : (held : List (List ℕ)) → named signature (map f (take i xs)) ≡ held → has signature (f (get_or xs i d)) ≡ false
      → named signature (map f (take (i + 1) xs)) ≡ held
  not_named held before other =
      named_next ∙ ap (λ b. named signature (map f (take i xs)) ++ cond b (f (get_or xs i d) ∷ []) []) other
      ∙ append-nil (named signature (map f (take i xs))) ∙ before

  pub first_named : named signature (map f (take i xs)) ≡ [] → has signature (f (get_or xs i d)) ≡ true
      → named signature (map f (take (i + 1) xs)) ≡ f (get_or xs i d) ∷ []
  first_named before is =
      named_next ∙ ap (λ b. named signature (map f (take i xs)) ++ cond b (f (get_or xs i d) ∷ []) []) is
      ∙ ap (λ l. l ++ f (get_or xs i d) ∷ []) before

  pub second_named : (held : List ℕ) → named signature (map f (take i xs)) ≡ held ∷ [] → has signature (f (get_or xs i d)) ≡ true
      → IsSecond signature i (map f xs)
  second_named held before is = record {
    inside = omega (arith, length-map xs f, inside);
    has_it = ap (has signature) (get_or-map f xs i d [] inside) ∙ is;
    earlier = λ none. let e : held ∷ [] ≡ [] = sym before ∙ ap (named signature) (sym (take-map f i xs)) ∙ none in cc;
  }

pub held_is : {Y : Type 0} (g : Y → List ℕ) (o : Option Y) → is_some o ≡ true → (y : Y) × (if_some (option_map g o) ≡ g y ∷ [])
held_is g None is = absurd cc
held_is g (Some y) is = (y, refl)

pub none_held : {Y : Type 0} (g : Y → List ℕ) (o : Option Y) (none : Bool) → is_some o ≡ not none → none ≡ true → if_some (option_map g o) ≡ []
none_held g None none same is = refl
none_held g (Some y) none same is = absurd (let e : true ≡ false = same ∙ ap not is in cc)

-- ---- why there is no image

abbrev pub Faulty : ℕ → List (List ℕ) → LayFault → Type 0
Faulty base files e = e ≢ faults.Memory → IsLayFault base files e

pub at_fault : {T : Type 0} (r : Result T LayFault) (P : LayFault → Type 0) (e f : LayFault) → IsErrAnd r (λ y. y ≡ e) → e ≡ f → P f → IfErr r P
at_fault r P e f is same holds = at_exit r P e is (subst P (sym same) holds)

pub has_no_space : (base : ℕ) (files : List (List ℕ)) (facs : Option (List ℕ)) (dsdt fadt : List ℕ) (tables : List (List ℕ)) (e : LayFault) (cause : Error)
    → (e ≢ faults.Memory → (e ≡ faults.NoSpace) × (cause ≢ Memory)) → Main files facs dsdt fadt → tables ≡ others files
    → (cause ≢ Memory → has_place base (files_image base facs dsdt fadt tables) (length tables) ≡ false) → Faulty base files e
has_no_space base files facs dsdt fadt tables e cause is main listed none other =
    let both = is other in
    subst (IsLayFault base files) (sym both.0)
    (no_space facs dsdt fadt main (ap (λ t. has_place base (files_image base facs dsdt fadt t) (length t)) (sym listed) ∙ none both.1))

-- ---- the image

-- what laying makes; slices of what vectors hold are that
module _ (base : ℕ) (facs : Option (List ℕ)) (dsdt fadt : List ℕ) (tables : List (List ℕ)) (start : Laid) (first : start ≡ files_laid base facs dsdt fadt [])
    (bytes places places' : List ℕ) (read : places' ≡ places) (all : record { bytes = bytes; places = places } ≡ all_placed tables start) where
  laid_is : record { bytes = bytes; places = places' } ≡ files_laid base facs dsdt fadt tables
  laid_is = ap (λ p. record { bytes = bytes; places = p }) read ∙ all ∙ ap (all_placed tables) first

  counted : length places' ≡ 1 + length tables
  counted =
      let one : length (files_laid base facs dsdt fadt []).places ≡ 1 = omega arith in
      omega (arith, ap (λ (l : Laid). length l.places) laid_is, places_counted tables (files_laid base facs dsdt fadt []), one)

  pub too_many : 2 ^ 32 ≤ 36 + 8 * length places' → has_place base (files_image base facs dsdt fadt tables) (length tables) ≡ false
  too_many many = many_is base (length (files_image base facs dsdt fadt tables).bytes) (length tables) (omega (arith, many, counted))

  module _ (oem : Oem) (oem_is : oem ≡ oem_of fadt) (made : List ℕ) (is : made ≡ (with_pointer base oem (record { bytes = bytes; places = places' })).bytes) where
    pub bytes_are : made ≡ (files_image base facs dsdt fadt tables).bytes
    bytes_are =
        is ∙ ap (λ o. (with_pointer base o (record { bytes = bytes; places = places' })).bytes) oem_is
        ∙ ap (λ l. (with_pointer base (oem_of fadt) l).bytes) laid_is

    pub past_the_end : 2 ^ 64 < base + length made → has_place base (files_image base facs dsdt fadt tables) (length tables) ≡ false
    past_the_end high = past_is base (length (files_image base facs dsdt fadt tables).bytes) (length tables) (omega (arith, high, ap length bytes_are))

    pub accepted_is : base + length made ≤ 2 ^ 64 → 36 + 8 * length places' < 2 ^ 32
        → has_place base (files_image base facs dsdt fadt tables) (length tables) ≡ true
    accepted_is low few =
        fits_is base (length (files_image base facs dsdt fadt tables).bytes) (length tables) (omega (arith, low, ap length bytes_are)) (omega (arith, few, counted))

    pub rsdp_is : (rsdp : ℕ) → (base + length made ≤ 2 ^ 64 → rsdp ≡ (with_pointer base oem (record { bytes = bytes; places = places' })).rsdp)
        → base + length made ≤ 2 ^ 64 → rsdp ≡ (files_image base facs dsdt fadt tables).rsdp
    rsdp_is rsdp at low =
        at low ∙ ap (λ o. (with_pointer base o (record { bytes = bytes; places = places' })).rsdp) oem_is
        ∙ ap (λ l. (with_pointer base (oem_of fadt) l).rsdp) laid_is
