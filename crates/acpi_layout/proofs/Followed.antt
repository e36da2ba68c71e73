-- An image has one list of tables: what is found at each step is what every list has there.
use Rattle.std.proofs.Common.{◌≡◌, ℕ, ◌<◌, ◌≤◌, List, [], ◌∷◌, ◌++◌, length, get_or, refl, sym, ap, ◌∙◌, arith, subst, codes}
use Rattle.std.specs.Prelude.{Option, Some, None}
use Rattle.std.specs.List.{All}
use Rattle.std.proofs.lemmas.List.{ext_get_or}
use Rattle.acpi_base.specs.Table.{IsTrueTable}
use Rattle.acpi_layout.specs.declared.located.Located.{Located}
use Rattle.acpi_layout.specs.Addresses.{Space, image_at, LiesIn}
use Rattle.acpi_layout.specs.declared.root.Root.{Root}
use Rattle.acpi_layout.specs.declared.root.Root.TheVariants.{Xsdt, Rsdt}
use Rattle.acpi_layout.specs.Found.{contents, IsPointerTo, root_signature, root_address, root_address_end, least_fadt, IsNamedTableAt, AreEntriesOf, IsOnlyFadt, dsdt_address, IsControlOf, if_found, AreApart, HasTablesOf, ImagesHaveOneList}
use Rattle.acpi_layout.proofs.Founds.{none_yet, same_count}

-- the FADT is in the image, as an entry of the XSDT or the RSDT
pub fadt_lies : (root : Root) (least : ℕ) (memory : Space) (listing : Located) (es ys : List Located) (f : Located) → ys ≡ es → AreEntriesOf root memory listing es
    → IsOnlyFadt least ys f → LiesIn memory f.address f.length
fadt_lies root least memory listing es ys f same are is =
    let inside : is.index < length es = omega (arith, ap length same, is.inside) in
    let t = get_or es is.index none_yet in
    let there : t ≡ f = ap (λ (l : List Located). get_or l is.index none_yet) (sym same) ∙ is.is none_yet in
    let at = are.each is.index none_yet inside in
    subst (λ (x : Located). LiesIn memory x.address x.length) there (subst (λ a. LiesIn memory a t.length) (sym (ap (λ (x : Located). x.address) at.is)) at.whole)

-- a FADT has one FACS or none
same_control : (root : Root) (memory : Space) (fadt : List ℕ) (u v : Option Located) → IsControlOf root memory fadt u → IsControlOf root memory fadt v → u ≡ v
same_control root memory fadt None None u_is v_is = refl
same_control root memory fadt None (Some v) u_is v_is = absurd (let one = v_is.0 in cc)
same_control root memory fadt (Some u) None u_is v_is = absurd (let one = u_is.0 in cc)
same_control root memory fadt (Some u) (Some v) u_is v_is = ap (λ x. Some x) (u_is.1.is ∙ sym v_is.1.is)

-- an RSDP is at one place
one_pointer : (root : Root) (memory : Space) (rsdp : ℕ) (p q : Located) → IsPointerTo root memory rsdp p → IsPointerTo root memory rsdp q → p ≡ q
one_pointer Xsdt memory rsdp p q p_is q_is = p_is.is ∙ sym q_is.is
one_pointer Rsdt memory rsdp p q p_is q_is = p_is.is ∙ sym q_is.is

-- the RSDP is in the image, and so is the field with the address of the XSDT or the RSDT
pub pointer_lies : (root : Root) (memory : Space) (rsdp : ℕ) (p : Located) → IsPointerTo root memory rsdp p → LiesIn memory p.address p.length
pointer_lies Xsdt memory rsdp p is = subst (λ (t : Located). LiesIn memory t.address t.length) (sym is.is) is.whole
pointer_lies Rsdt memory rsdp p is = subst (λ (t : Located). LiesIn memory t.address t.length) (sym is.is) is.whole

pub pointer_has : (root : Root) (memory : Space) (rsdp : ℕ) (p : Located) → IsPointerTo root memory rsdp p → root_address_end root ≤ p.length
pointer_has Xsdt memory rsdp p is = omega (arith, ap (λ (t : Located). t.length) is.is)
pointer_has Rsdt memory rsdp p is = omega (arith, ap (λ (t : Located). t.length) is.is)

module _ (root : Root) (memory : Space) (rsdp : ℕ) (tables : List Located) (im : HasTablesOf root memory rsdp tables) (p : Located) (p_is : IsPointerTo root memory rsdp p) where
  same_pointer : im.found.pointer ≡ p
  same_pointer = one_pointer root memory rsdp im.found.pointer p im.found.pointer_is p_is

  pub listing_there : IsNamedTableAt memory (root_signature root) (root_address root (contents memory p)) im.found.listing
  listing_there = subst (λ (t : Located). IsNamedTableAt memory (root_signature root) (root_address root (contents memory t)) im.found.listing) same_pointer im.found.listing_is

  module _ (x : Located) (x_is : IsNamedTableAt memory (root_signature root) (root_address root (contents memory p)) x) where
    same_listing : im.found.listing ≡ x
    same_listing = listing_there.is_table.is ∙ sym x_is.is_table.is

    pub entries_there : AreEntriesOf root memory x im.found.entries
    entries_there = subst (λ (t : Located). AreEntriesOf root memory t im.found.entries) same_listing im.found.entries_are

    pub listing_correct : IsTrueTable (contents memory x)
    listing_correct = subst (λ (t : Located). IsTrueTable (contents memory t)) same_listing im.listing_is_correct

    module _ (es ys : List Located) (es_are : AreEntriesOf root memory x es) (read : ys ≡ es) where
      same_length : length im.found.entries ≡ length es
      same_length = same_count root x.length (length im.found.entries) (length es) entries_there.counted es_are.counted

      same_entries : im.found.entries ≡ ys
      same_entries =
          ext_get_or none_yet im.found.entries es same_length
          (λ i inside. (entries_there.each i none_yet inside).is ∙ sym (es_are.each i none_yet (omega (arith, same_length, inside))).is) ∙ sym read

      pub fadt_there : IsOnlyFadt (least_fadt root) ys im.found.fadt
      fadt_there = subst (λ (l : List Located). IsOnlyFadt (least_fadt root) l im.found.fadt) same_entries im.found.fadt_is

      pub entries_correct : All (λ table. IsTrueTable (contents memory table)) ys
      entries_correct = subst (λ (l : List Located). All (λ table. IsTrueTable (contents memory table)) l) same_entries im.entries_are_correct

      module _ (f : Located) (f_is : IsOnlyFadt (least_fadt root) ys f) where
        same_fadt : im.found.fadt ≡ f
        same_fadt =
            let there = fadt_there in
            let is : get_or ys there.index none_yet ≡ im.found.fadt = there.is none_yet in
            let at : there.index ≡ f_is.index = f_is.only there.index none_yet there.inside (ap (λ (t : Located). t.signature) is ∙ there.signature) in
            sym is ∙ ap (λ i. get_or ys i none_yet) at ∙ f_is.is none_yet

        pub facs_there : IsControlOf root memory (contents memory f) im.found.facs
        facs_there = subst (λ (t : Located). IsControlOf root memory (contents memory t) im.found.facs) same_fadt im.found.facs_is

        pub dsdt_there : IsNamedTableAt memory (codes "DSDT") (dsdt_address root (contents memory f)) im.found.dsdt
        dsdt_there = subst (λ (t : Located). IsNamedTableAt memory (codes "DSDT") (dsdt_address root (contents memory t)) im.found.dsdt) same_fadt im.found.dsdt_is

        module _ (a : Option Located) (d : Located) (a_is : IsControlOf root memory (contents memory f) a)
            (d_is : IsNamedTableAt memory (codes "DSDT") (dsdt_address root (contents memory f)) d) where
          same_facs : im.found.facs ≡ a
          same_facs = same_control root memory (contents memory f) im.found.facs a facs_there a_is

          same_dsdt : im.found.dsdt ≡ d
          same_dsdt = dsdt_there.is_table.is ∙ sym d_is.is_table.is

          pub dsdt_correct : IsTrueTable (contents memory d)
          dsdt_correct = subst (λ (t : Located). IsTrueTable (contents memory t)) same_dsdt im.dsdt_is_correct

          same_tables : (ts found zs : List Located) → zs ≡ es → found ≡ p ∷ x ∷ (zs ++ (if_found a ++ (d ∷ []))) → ts ≡ found → tables ≡ ts
          same_tables ts found zs read' listed read'' =
              im.listed ∙ ap (λ t. t ∷ im.found.listing ∷ (im.found.entries ++ (if_found im.found.facs ++ (im.found.dsdt ∷ [])))) same_pointer
              ∙ ap (λ t. p ∷ t ∷ (im.found.entries ++ (if_found im.found.facs ++ (im.found.dsdt ∷ [])))) same_listing
              ∙ ap (λ (l : List Located). p ∷ x ∷ (l ++ (if_found im.found.facs ++ (im.found.dsdt ∷ [])))) (same_entries ∙ read ∙ sym read')
              ∙ ap (λ (t : Option Located). p ∷ x ∷ (zs ++ (if_found t ++ (im.found.dsdt ∷ [])))) same_facs ∙ ap (λ t. p ∷ x ∷ (zs ++ (if_found a ++ (t ∷ [])))) same_dsdt
              ∙ sym listed ∙ sym read''

          pub all_apart : (ts found zs : List Located) → zs ≡ es → found ≡ p ∷ x ∷ (zs ++ (if_found a ++ (d ∷ []))) → ts ≡ found → AreApart ts
          all_apart ts found zs read' listed read'' = subst AreApart (same_tables ts found zs read' listed read'') im.apart

pub have_one_list : ImagesHaveOneList
have_one_list root bytes base rsdp t u im other =
    same_tables root (image_at base bytes) rsdp t im other.found.pointer other.found.pointer_is other.found.listing other.found.listing_is other.found.entries other.found.entries other.found.entries_are refl
    other.found.fadt other.found.fadt_is other.found.facs other.found.dsdt other.found.facs_is other.found.dsdt_is u u other.found.entries refl other.listed refl
