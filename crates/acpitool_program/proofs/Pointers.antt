-- The first pointer of an image.
use Rattle.std.proofs.Common.{◌≡◌, ◌≢◌, ◌∙◌, sym, ℕ, ◌+◌, ◌%◌, ◌^◌, ◌<◌, ◌≤◌, List, length, inl, inr, arith, subst}
use Rattle.std.proofs.lemmas.Bool.{cases_lt}
use Rattle.acpitool_program.specs.Image.{IsPointerAt, IsFirstPointer, HasNoPointer, IsFirstPointerTo, IsFoundImage}
use Rattle.acpi_layout.specs.Found.{root_address_end, IsImageOf}
use Rattle.acpi_layout.specs.declared.fault.ImageFault.{ImageFault}
use Rattle.acpi_layout.specs.declared.fault.ImageFault.TheVariants.{Memory, Outside}
use Rattle.acpi_layout.specs.declared.located.Located.{Located}
use Rattle.acpi_layout.specs.declared.root.Root.{Root}
use Rattle.acpi_layout.specs.declared.root.Root.TheVariants.{Xsdt, Rsdt}
use Rattle.acpitool_program.specs.Listing.{IsWhyNone, IsNoImage}
use Rattle.acpitool_program.specs.declared.image.NoImage.{NoImage}
use Rattle.acpitool_program.specs.declared.image.NoImage.TheVariants.{NoPointer, Away, Wrong}

-- none is before this offset
abbrev pub NoneBefore : ℕ → List ℕ → ℕ → Type 0
NoneBefore size bytes at = (k : ℕ) → k < at → ¬ IsPointerAt size bytes k

pub none_at_first : (size : ℕ) (bytes : List ℕ) → NoneBefore size bytes 0
none_at_first size bytes k lt is = absurd (omega (arith, lt))

-- none is before the next multiple of 16
pub none_before_next : (size : ℕ) (bytes : List ℕ) (at : ℕ) → at % 16 ≡ 0 → NoneBefore size bytes at → ¬ IsPointerAt size bytes at
    → NoneBefore size bytes (at + 16)
none_before_next size bytes at aligned before not k lt is = elim (cases_lt k at) [
  | inl less ↦ before k less is
  | inr more ↦
      let same : k ≡ at = (let k_aligned = is.aligned in grind (arith, aligned, k_aligned, lt, more)) in
      let P : ℕ → Type 0 = λ n. IsPointerAt size bytes n in
      not (subst P same is)
]

-- none is where too few bytes are left
pub none_at_end : (size : ℕ) (bytes : List ℕ) (at : ℕ) → NoneBefore size bytes at → length bytes < at + size → HasNoPointer size bytes
none_at_end size bytes at before short k is = elim (cases_lt k at) [
  | inl less ↦ before k less is
  | inr more ↦ let whole = is.whole in absurd (omega (arith, short, more, whole))
]

-- there is one first pointer
pub one_first : (size : ℕ) (bytes : List ℕ) (a b : ℕ) → IsFirstPointer size bytes a → IsFirstPointer size bytes b → a ≡ b
one_first size bytes a b one two = elim (cases_lt a b) [
  | inl less ↦ absurd (two.first a less one.is)
  | inr more ↦ elim (cases_lt b a) [
    | inl less ↦ absurd (one.first b less two.is)
    | inr most ↦ omega (arith, more, most)
  ]
]

-- where the tables from the first pointer on are no image, there is none
pub none_found : (root other : Root) (base : ℕ) (bytes : List ℕ) (at from : ℕ) → IsFirstPointerTo root bytes at
    → ((tables : List Located) → base + at < 2 ^ 64 → ¬ IsImageOf root bytes base (base + at) tables)
    → (tables : List Located) → IsFirstPointerTo other bytes from → base + from < 2 ^ 64 → IsImageOf other bytes base (base + from) tables → ⊥
none_found Xsdt Xsdt base bytes at from first none tables its fits image =
    let P : ℕ → Type 0 = λ n. (base + n < 2 ^ 64) × IsImageOf Xsdt bytes base (base + n) tables in
    let here = subst P (one_first 36 bytes from at its first) (fits, image) in
    none tables here.0 here.1
none_found Rsdt Rsdt base bytes at from first none tables its fits image =
    let P : ℕ → Type 0 = λ n. (base + n < 2 ^ 64) × IsImageOf Rsdt bytes base (base + n) tables in
    let here = subst P (one_first 20 bytes from at its.1 first.1) (fits, image) in
    none tables here.0 here.1
none_found Xsdt Rsdt base bytes at from first none tables its fits image = absurd (its.0 at first.is)
none_found Rsdt Xsdt base bytes at from first none tables its fits image = absurd (first.0 from its.is)

outside_is_no_memory : (address : ℕ) (fault : ImageFault) → fault ≡ Outside address → fault ≢ Memory
outside_is_no_memory address fault is memory = let e : Outside address ≡ Memory = sym is ∙ memory in cc

-- why the first pointer leads to no tables is why there is no image
pub why_no_image : (root : Root) (base : ℕ) (bytes : List ℕ) (at : ℕ) (fault : ImageFault) (why : NoImage) → IsFirstPointerTo root bytes at
    → (fault ≢ Memory → (tables : List Located) → ¬ IsFoundImage base bytes tables) → IsWhyNone root bytes at fault why
    → IsNoImage base bytes why
why_no_image root base bytes at fault NoPointer first none is = absurd is
why_no_image root base bytes at fault (Away address) first none is =
    record { root = root; at = at; first = first; is = is.1; none = none (outside_is_no_memory address fault is.0) }
why_no_image root base bytes at fault (Wrong other) first none is = λ not. none (λ memory. not (is ∙ memory))

-- a pointer has the field with the address
pub pointer_ends : (root : Root) (bytes : List ℕ) (at : ℕ) → IsFirstPointerTo root bytes at → at + root_address_end root ≤ length bytes
pointer_ends Xsdt bytes at first = omega (arith, first.is.whole)
pointer_ends Rsdt bytes at first = omega (arith, first.1.is.whole)
