-- Facts about the tables of an image.
use Rattle.std.proofs.Common.{◌≡◌, ℕ, ◌+◌, ◌-◌, ◌*◌, ◌<◌, ◌≤◌, List, [], ◌∷◌, ◌++◌, length, get_or, take, drop, refl, sym, ap, ◌∙◌, arith, subst, zero, suc, below_more, codes}
use Rattle.std.specs.Prelude.{Result, Ok, Err, OnErr, IfErr, IsErrAnd, true, false, Option, Some, None}
use Rattle.std.proofs.lemmas.List.{take_rest, get_or_push, get_or_append_left, get_or-drop, length-drop}
use Rattle.std.proofs.lemmas.Result.{err_from_is_err_and}
use Rattle.acpi_base.specs.Bytes.{field_at}
use Rattle.acpi_layout.specs.declared.located.Located.{Located}
use Rattle.acpi_layout.specs.Addresses.{Space}
use Rattle.acpi_layout.specs.declared.root.Root.{Root}
use Rattle.acpi_layout.specs.declared.root.Root.TheVariants.{Xsdt, Rsdt}
use Rattle.acpi_layout.specs.Found.{contents, IsTableAt, entry_width, AreEntriesOf, IsOnlyFadt, facs_address, IsControlAt, has_no_control, IsControlOf}

-- ---- exits

pub on_err : {T E : Type 0} (P : Type 0) (r : Result T E) → P → OnErr r P
on_err P (Ok x) p = tt
on_err P (Err e) p = p

pub at_exit : {T E : Type 0} (r : Result T E) (P : E → Type 0) (e : E) → IsErrAnd r (λ y. y ≡ e) → P e → IfErr r P
at_exit r P e is holds = let p = err_from_is_err_and r is in rw (p.1, p.2) holds

-- ---- elements

abbrev pub none_yet : Located
none_yet = record { address = 0; length = 0; signature = [] }

pub same_at : (xs : List Located) (i : ℕ) (d e : Located) → i < length xs → get_or xs i d ≡ get_or xs i e
same_at [] i d e inside = absurd (omega arith)
same_at (x ∷ xs) zero d e inside = refl
same_at (x ∷ xs) (suc i) d e inside = same_at xs i d e (omega arith)

pub signature_at : (xs : List Located) (i : ℕ) (e : Located) (s : List ℕ) → i < length xs → (get_or xs i e).signature ≡ s → (d : Located) → (get_or xs i d).signature ≡ s
signature_at xs i e s inside is d = ap (λ (t : Located). t.signature) (same_at xs i d e inside) ∙ is

-- ---- the tables that an XSDT or an RSDT lists

-- so many bytes are those of one number of entries
pub same_count : (root : Root) (size a b : ℕ) → size ≡ 36 + entry_width root * a → size ≡ 36 + entry_width root * b → a ≡ b
same_count Xsdt size a b one other = omega (arith, one, other)
same_count Rsdt size a b one other = omega (arith, one, other)

-- an entry ends inside
pub entry_ends : (root : Root) (size count i : ℕ) → size ≡ 36 + entry_width root * count → i < count → 36 + entry_width root * (i + 1) ≤ size
entry_ends Xsdt size count i counted inside = omega (arith, counted, inside)
entry_ends Rsdt size count i counted inside = omega (arith, counted, inside)

module _ (root : Root) (memory : Space) (whole : List ℕ) (listing : Located) (is : whole ≡ contents memory listing) where
  pub entry_refused : (count : ℕ) → listing.length ≡ 36 + entry_width root * count → (i address : ℕ)
      → address ≡ field_at (36 + entry_width root * i) (entry_width root) whole → i < count
      → ((table : Located) → IsTableAt memory address table → ⊥) → (entries : List Located) → AreEntriesOf root memory listing entries → ⊥
  entry_refused count counted i address from within none entries are =
      let inside : i < length entries = omega (arith, same_count root listing.length (length entries) count are.counted counted, within) in
      let at : field_at (36 + entry_width root * i) (entry_width root) (contents memory listing) ≡ address =
      ap (λ (b : List ℕ). field_at (36 + entry_width root * i) (entry_width root) b) (sym is) ∙ sym from in
      none (get_or entries i none_yet) (subst (λ a. IsTableAt memory a (get_or entries i none_yet)) at (are.each i none_yet inside))

  pub entries_are : (entries : List Located) → listing.length ≡ 36 + entry_width root * length entries
      → ((k : ℕ) (d : Located) → k < length entries
      → IsTableAt memory (field_at (36 + entry_width root * k) (entry_width root) whole) (get_or entries k d))
      → AreEntriesOf root memory listing entries
  entries_are entries counted each = record {
    counted = counted;
    each = λ k d inside. subst (λ (b : List ℕ). IsTableAt memory (field_at (36 + entry_width root * k) (entry_width root) b) (get_or entries k d)) is (each k d inside);
  }

pub entries_next : (root : Root) (memory : Space) (whole : List ℕ) (entries new : List Located) (i address : ℕ) (table : Located)
    → new ≡ entries ++ table ∷ [] → length entries ≡ i
    → ((k : ℕ) (d : Located) → k < i → IsTableAt memory (field_at (36 + entry_width root * k) (entry_width root) whole) (get_or entries k d))
    → address ≡ field_at (36 + entry_width root * i) (entry_width root) whole → IsTableAt memory address table
    → (k : ℕ) (d : Located) → k < i + 1 → IsTableAt memory (field_at (36 + entry_width root * k) (entry_width root) whole) (get_or new k d)
entries_next root memory whole entries new i address table pushed size each from here k d below =
    let P : ℕ → Type 0 = λ j. (d : Located) → IsTableAt memory (field_at (36 + entry_width root * j) (entry_width root) whole) (get_or new j d) in
    let left : (j : ℕ) (d : Located) → j < i → get_or new j d ≡ get_or entries j d =
    λ j d h. ap (λ (l : List Located). get_or l j d) pushed ∙ get_or_append_left entries (table ∷ []) d j (omega (arith, size, h)) in
    let last : (d : Located) → get_or new i d ≡ table = λ d. ap (λ (l : List Located). get_or l i d) pushed ∙ get_or_push entries table d i size in
    below_more P i
    (λ j h d. subst (λ (t : Located). IsTableAt memory (field_at (36 + entry_width root * j) (entry_width root) whole) t) (sym (left j d h)) (each j d h))
    (λ d. subst (λ (t : Located). IsTableAt memory (field_at (36 + entry_width root * i) (entry_width root) whole) t) (sym (last d)) (subst (λ a. IsTableAt memory a table) from here)) k below d

-- ---- the FADT

pub not_only : (least : ℕ) (xs : List Located) (i j : ℕ) (d e : Located) → i < j → j < length xs → (get_or xs i d).signature ≡ codes "FACP" → (get_or xs j e).signature ≡ codes "FACP"
    → (fadt : Located) → IsOnlyFadt least xs fadt → ⊥
not_only least xs i j d e after inside first second fadt is = omega (arith, after, is.only i d (omega arith) first, is.only j e inside second)

only_here : (i at : ℕ) → (i < at → ⊥) → (at < i → ⊥) → i ≡ at
only_here i at before after = omega arith

pub only_is : (least : ℕ) (xs : List Located) (at : ℕ) (e : Located) → at < length xs → (get_or xs at e).signature ≡ codes "FACP" → least ≤ (get_or xs at e).length
    → ((k : ℕ) (d : Located) → k < at → (get_or xs k d).signature ≡ codes "FACP" → ⊥)
    → ((k : ℕ) (d : Located) → at + 1 + k < length xs → (get_or xs (at + 1 + k) d).signature ≡ codes "FACP" → ⊥)
    → IsOnlyFadt least xs (get_or xs at e)
only_is least xs at e inside signature long before after = record {
  index = at;
  inside = inside;
  is = λ d. same_at xs at d e inside;
  signature = signature;
  only = λ i d within named. only_here i at (λ h. before i d h named)
      (λ h. let at_is : at + 1 + (i - (at + 1)) ≡ i = omega (arith, h) in
      after (i - (at + 1)) d (omega (arith, at_is, within)) (ap (λ n. (get_or xs n d).signature) at_is ∙ named));
  has_addresses = long;
}

-- ---- the FACS

-- a FADT that doesn't say that there is none, and points to none
pub no_control : (root : Root) (memory : Space) (whole fadt : List ℕ) (address : ℕ) → whole ≡ fadt → address ≡ facs_address root whole → has_no_control root whole ≡ false
    → ((facs : Located) → IsControlAt memory address facs → ⊥) → (facs : Option Located) → IsControlOf root memory fadt facs → ⊥
no_control root memory whole fadt address same from says none None is =
    let both : true ≡ false = sym is ∙ sym (ap (has_no_control root) same) ∙ says in
    absurd cc
no_control root memory whole fadt address same from says none (Some facs) is =
    none facs (subst (λ a. IsControlAt memory a facs) (sym (from ∙ ap (facs_address root) same)) is.1)

-- ---- the elements behind

pub rest_size : (xs : List Located) (n : ℕ) → length (take (length xs - n) (drop n xs)) ≡ length xs - n
rest_size xs n = ap length (take_rest xs n) ∙ length-drop n xs

pub in_rest : (xs : List Located) (n k : ℕ) (d : Located) → get_or (take (length xs - n) (drop n xs)) k d ≡ get_or xs (n + k) d
in_rest xs n k d = ap (λ (l : List Located). get_or l k d) (take_rest xs n) ∙ get_or-drop n xs k d

pub rest_inside : (xs : List Located) (n k : ℕ) → k < length (take (length xs - n) (drop n xs)) → n + k < length xs
rest_inside xs n k h = omega (arith, h, rest_size xs n)
