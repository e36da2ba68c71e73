-- Faults: what was compared, as the definitions say it.
use Rattle.std.proofs.Common.{◌≡◌, ℕ, ◌<◌, ◌≤◌, List, [], ◌∷◌, ◌++◌, length, get_or, take, refl, sym, ap, subst, ◌∙◌, arith, codes}
use Rattle.std.proofs.Math.Seq.{drop-cons}
use Rattle.std.specs.Prelude.{Result, Ok, Err, IsErrAnd, IfErr, Bool, false, IsTrue, Option}
use Rattle.acpi_base.specs.Bytes.{carried, field_at}
use Rattle.acpi_layout.specs.declared.fault.ImageFault.{ImageFault}
use Rattle.acpi_layout.specs.declared.located.Located.{Located}
use Rattle.acpi_layout.specs.Addresses.{Space}
use Rattle.acpi_layout.specs.declared.root.Root.{Root}
use Rattle.acpi_layout.specs.Found.{contents, IsPointerTo, root_signature, root_address, least_fadt, IsNamedTableAt, IsRoot, AreEntriesOf, IsOnlyFadt, IsFadt, dsdt_address, IsControlOf, if_found, AreApart, Found, tables_of}
use Rattle.acpi_layout.proofs.Founds.{at_exit}

-- a fault that a call returned, and that is this one
pub at_fault : {T : Type 0} (r : Result T ImageFault) (P : ImageFault → Type 0) (e f : ImageFault) → IsErrAnd r (λ y. y ≡ e) → e ≡ f → P f → IfErr r P
at_fault r P e f is same holds = at_exit r P e is (subst P (sym same) holds)

pub not_true : (b : Bool) → b ≡ false → IsTrue b → ⊥
not_true b is holds = cc

pub err_then : {T E : Type 0} (P Q : E → Type 0) (r : Result T E) → ((e : E) → P e → Q e) → IfErr r P → IfErr r Q
err_then P Q (Ok x) then p = tt
err_then P Q (Err e) then p = then e p

pub byte_is : (b : List ℕ) (i : ℕ) → i < length b → field_at i 1 b ≡ get_or b i 0
byte_is b i inside =
    let one : carried (get_or b i 0 ∷ []) ≡ get_or b i 0 = omega arith in
    ap (λ l. carried (take 1 l)) (drop-cons b i 0 inside) ∙ one

pub four_are : (b : List ℕ) → 4 ≤ length b → take 4 b ≡ get_or b 0 0 ∷ get_or b 1 0 ∷ get_or b 2 0 ∷ get_or b 3 0 ∷ []
four_are (a ∷ b ∷ c ∷ d ∷ r) long = refl
four_are b long = absurd (omega (arith, long))

-- ---- what is found

module _ (root : Root) (memory : Space) (rsdp : ℕ) (p x : Located) (p_is : IsPointerTo root memory rsdp p)
    (x_is : IsNamedTableAt memory (root_signature root) (root_address root (contents memory p)) x) where
  pub listing_is : IsRoot root memory rsdp x
  listing_is = record { pointer = p; pointer_is = p_is; is = x_is }

  module _ (es ys : List Located) (es_are : AreEntriesOf root memory x es) (read : ys ≡ es) (f : Located) (f_is : IsOnlyFadt (least_fadt root) ys f) where
    pub fadt_there : IsOnlyFadt (least_fadt root) es f
    fadt_there = subst (λ (l : List Located). IsOnlyFadt (least_fadt root) l f) read f_is

    pub fadt_is : IsFadt root memory rsdp f
    fadt_is = record { listing = x; entries = es; listing_is = listing_is; entries_are = es_are; is = fadt_there }

    module _ (a : Option Located) (d : Located) (a_is : IsControlOf root memory (contents memory f) a)
        (d_is : IsNamedTableAt memory (codes "DSDT") (dsdt_address root (contents memory f)) d) where
      abbrev pub all_found : Found root memory rsdp
      all_found = record {
        pointer = p;
        listing = x;
        entries = es;
        fadt = f;
        facs = a;
        dsdt = d;
        pointer_is = p_is;
        listing_is = x_is;
        entries_are = es_are;
        fadt_is = fadt_there;
        facs_is = a_is;
        dsdt_is = d_is;
      }

      -- a slice of the list of the tables, whose entries are a slice, too
      pub listed_are : (ts made zs : List Located) → ts ≡ made → made ≡ p ∷ x ∷ (zs ++ (if_found a ++ (d ∷ []))) → zs ≡ es → ts ≡ tables_of all_found
      listed_are ts made zs same is read' = same ∙ is ∙ ap (λ (l : List Located). p ∷ x ∷ (l ++ (if_found a ++ (d ∷ [])))) read'

      pub those_apart : (ts made zs : List Located) → ts ≡ made → made ≡ p ∷ x ∷ (zs ++ (if_found a ++ (d ∷ []))) → zs ≡ es → AreApart ts → AreApart (tables_of all_found)
      those_apart ts made zs same is read' apart = subst AreApart (listed_are ts made zs same is read') apart
