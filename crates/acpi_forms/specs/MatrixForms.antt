-- The forms of HMAT and SLIT.
use Rattle.std.specs.Prelude.{[], ◌∷◌}
use Rattle.acpi_base.specs.Fields.{reserved}
use Rattle.acpi_base.specs.Walk.{hmat_walk}
use Rattle.acpi_matrices.specs.Cache.{cache_head_fields}
use Rattle.acpi_matrices.specs.Hmat.{proximity_fields}
use Rattle.acpi_matrices.specs.Locality.{locality_head_fields}
use Rattle.acpi_matrices.specs.Slit.{slit_fields}
use Rattle.acpi_forms.specs.Rows.{TableHas, StructureHas}
use Rattle.acpi_text.specs.declared.form.TableForm.{TableForm}

-- ---- HMAT (ACPI 6.5, 5.2.28)

pub record IsHmat (form : TableForm) : Type 0 where
  pub table : TableHas {T = Unit {0}} (λ none. reserved 4 ∷ []) form
  pub proximity : StructureHas hmat_walk proximity_fields form
  pub locality : StructureHas hmat_walk locality_head_fields form
  pub cache : StructureHas hmat_walk cache_head_fields form

-- ---- SLIT (ACPI 6.5, 5.2.17)

-- before its matrix
abbrev pub IsSlit : TableForm → Type 0
IsSlit form = TableHas slit_fields form
