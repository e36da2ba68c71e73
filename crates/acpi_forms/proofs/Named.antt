-- The form in the row of a signature has the names and the fields of the same row.
use Rattle.std.proofs.Common.{◌≡◌, ℕ, ◌==◌, true, false, Option, List, [], ◌∷◌, map, if◌then◌else◌, refl, ap, ◌∙◌, subst}
use Rattle.acpi_base.specs.Walk.{named}
use Rattle.acpi_text.specs.Structure.{all_forms}
use Rattle.acpi_text.specs.declared.form.TableForm.{TableForm}
use Rattle.acpi_forms.specs.Name.{Named, IsNamed, kinds}
use Rattle.acpi_forms.specs.Named.{find_form, find_named}
use Rattle.acpi_forms.specs.Written.{nothing}

-- ---- forms beside their signatures

-- each form has the names at its place
abbrev pub AreNamed : List (List ℕ × TableForm) → List Named → Type 0
AreNamed [] [] = Unit {0}
AreNamed (row ∷ rows) (n ∷ names) = (row.0 ≡ n.signature) × IsNamed row.1 n × AreNamed rows names
AreNamed _ _ = ⊥

-- one more
pub and_named : (row : List ℕ × TableForm) (rows : List (List ℕ × TableForm)) (n : Named) (names : List Named)
    → row.0 ≡ n.signature → IsNamed row.1 n → AreNamed rows names → AreNamed (row ∷ rows) (n ∷ names)
and_named row rows n names same is are = (same, is, are)

-- the form that is found among these
pub found_is_named : (s : ℕ) (rows : List (List ℕ × TableForm)) (names : List Named) (other : TableForm) (none : Named)
    → AreNamed rows names → IsNamed other none → IsNamed (find_form s rows other) (find_named s names none)
unfolding find_form
found_is_named s [] [] other none are is = is
found_is_named s [] (n ∷ names) other none are is = absurd are
found_is_named s (row ∷ rows) [] other none are is = absurd are
found_is_named s (row ∷ rows) (n ∷ names) other none are is =
    let P : List ℕ → Type 0 = λ signature. IsNamed (if s == named row.0 then row.1 else find_form s rows other) (if s == named signature then n else find_named s names none) in
    subst P are.0 (elim (s == named row.0) as (λ v. IsNamed (if v then row.1 else find_form s rows other) (if v then n else find_named s names none)) [
      | true ↦ are.1
      | false ↦ found_is_named s rows names other none are.2 is
    ])

-- the same of a result
pub form_is_named : (s : ℕ) (rows : List (List ℕ × TableForm)) (names : List Named) (other form : TableForm) (none : Named)
    → form ≡ find_form s rows other → AreNamed rows names → IsNamed other none → IsNamed form (find_named s names none)
form_is_named s rows names other form none found are is = rw found (found_is_named s rows names other none are is)

-- ---- forms of tables that are only read

-- the names that such a form has beside a signature
abbrev pub own_names : List ℕ × TableForm → Named
own_names row = record { signature = row.0; name = row.1.name.now; kinds = kinds (all_forms row.1); written = nothing }

own_are_named : (rows : List (List ℕ × TableForm)) → AreNamed rows (map own_names rows)
own_are_named [] = tt
own_are_named (row ∷ rows) = (refl, record { name = refl; structures = refl; fields = tt }, own_are_named rows)

pub read_is_named : (s : ℕ) (rows : List (List ℕ × TableForm)) (names : List Named) (other form : TableForm) (none : Named)
    → form ≡ find_form s rows other → map own_names rows ≡ names → IsNamed other none → IsNamed form (find_named s names none)
read_is_named s rows names other form none found are is =
    form_is_named s rows names other form none found (subst (λ l. AreNamed rows l) are (own_are_named rows)) is
