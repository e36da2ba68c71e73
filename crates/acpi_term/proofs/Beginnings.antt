-- The first bytes of names.
use Rattle.std.proofs.Common.{◌≡◌, ℕ, true, false, eqb, List, ◌∷◌, ◌++◌, refl, ap, ◌∙◌, subst}
use Rattle.std.proofs.lemmas.Bool.{ne_eqb}
use Rattle.acpi_term.specs.Name.{is_segment, no_more, one_more, IsPath, single, double, multiple, IsName, relative, rooted, as_written, root_alone, upwards, IsNameIn, begins_name}
use Rattle.acpi_term.specs.declared.language.Language.{Language}
use Rattle.acpi_term.specs.declared.language.Language.TheVariants.{Written, Standard}
use Rattle.acpi_term.specs.Reading.{names_first}
use Rattle.acpi_term.proofs.Names.{lead_of}

lead_begins : (l : Language) (a b c d : ℕ) → is_segment a b c d ≡ true → begins_name l a ≡ true
lead_begins l a b c d h = rw (lead_of a b c d h) refl

path_begins : (l : Language) (s rest : List ℕ) → IsPath s → (b : ℕ) × (more : List ℕ) × (s ++ rest ≡ b ∷ more) × (begins_name l b ≡ true)
path_begins l s rest (single (one_more {a} {b} {c} {d} h no_more)) = (a, b ∷ c ∷ d ∷ rest, refl, lead_begins l a b c d h)
path_begins l s rest (double {s = t} p) = (46, t ++ rest, refl, refl)
path_begins l s rest (multiple {n} {s = t} ge lt p) = (47, n ∷ t ++ rest, refl, refl)

written_begins : (l : Language) (s rest : List ℕ) → IsName s → (b : ℕ) × (more : List ℕ) × (s ++ rest ≡ b ∷ more) × (begins_name l b ≡ true)
written_begins l s rest (relative p) = path_begins l s rest p
written_begins l s rest (rooted {s = t} p) = (92, t ++ rest, refl, refl)

pub name_begins : (l : Language) (s rest : List ℕ) → IsNameIn l s → (b : ℕ) × (more : List ℕ) × (s ++ rest ≡ b ∷ more) × (begins_name l b ≡ true)
name_begins Written s rest p = written_begins Written s rest p
name_begins Standard s rest (as_written p) = written_begins Standard s rest p
name_begins Standard s rest root_alone = (92, 0 ∷ rest, refl, refl)
name_begins Standard s rest (upwards {s = t} p) = (94, t ++ rest, refl, refl)

pub name_first : (l : Language) (s rest : List ℕ) → IsNameIn l s → names_first (s ++ rest) ≡ true
name_first Written s rest p = let x = name_begins Standard s rest (as_written p) in ap names_first x.2 ∙ x.3
name_first Standard s rest p = let x = name_begins Standard s rest p in ap names_first x.2 ∙ x.3

-- a byte that begins a name is none that doesn't
pub begins_not : (l : Language) (b k : ℕ) → begins_name l b ≡ true → begins_name l k ≡ false → eqb b k ≡ false
begins_not l b k h none = ne_eqb b k (λ e. let f : begins_name l k ≡ true = subst (λ x. begins_name l x ≡ true) e h in cc)
