-- What names and fields the form of a table has.
use Rattle.std.specs.Prelude.{◌≡◌, ℕ, List, [], ◌∷◌, map, codes}
use Prim.Native.String.{String}
use Rattle.acpi_forms.specs.Written.{Written, nothing, HasFields}
use Rattle.acpi_text.specs.declared.form.StructureForm.{StructureForm}
use Rattle.acpi_text.specs.declared.form.TableForm.{TableForm}
use Rattle.acpi_text.specs.Structure.{all_forms}

-- a table's signature, its name, the types of its structures with their names, and what of it is written
pub record Named : Type 0 where
  pub signature : List ℕ
  pub name : List ℕ
  pub kinds : List (ℕ × List ℕ)
  pub written : Written

-- the names of a table of which this is written
abbrev pub named_as : Written → String → String → List (ℕ × List ℕ) → Named
named_as written signature name kinds = record {
  signature = codes signature;
  name = codes name;
  kinds = kinds;
  written = written;
}

-- those of a table that no call writes
abbrev pub only_read : String → String → List (ℕ × List ℕ) → Named
only_read signature name kinds = named_as nothing signature name kinds

-- structures without a type, which all have this name
abbrev pub one_kind : String → List (ℕ × List ℕ)
one_kind name = (0, codes name) ∷ []

-- the types and the names of forms of structures
abbrev pub kinds : List StructureForm → List (ℕ × List ℕ)
kinds forms = map (λ form. (form.number, form.name.now)) forms

-- A form has this name, its structures have theirs, and its fields are those that are written.
pub record IsNamed (form : TableForm) (n : Named) : Type 0 where
  pub name : form.name.now ≡ n.name
  pub structures : kinds (all_forms form) ≡ n.kinds
  pub fields : HasFields n.written form
