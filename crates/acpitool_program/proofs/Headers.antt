-- The header of a definition block as comments.
use Rattle.std.proofs.Common.{◌≡◌, ◌∙◌, ℕ, Bool, true, false, if◌then◌else◌, List, [], None, take, Result, Ok, Err, IfOk, Vec, Global, refl, ap}
use Rattle.acpi_base.specs.Bytes.{field_at}
use Rattle.acpi_forms.specs.Layout.{names_in}
use Rattle.acpi_forms.specs.Named.{IsNamed}
use Rattle.acpi_text.specs.Comment.{comment}
use Rattle.acpi_text.specs.Table.{table_text}
use Rattle.acpi_text.specs.declared.form.TableForm.{TableForm}
use Rattle.acpitool_program.specs.Offsets.{without_offsets}
use Rattle.acpitool_program.specs.Shown.{IsHeader}

-- a text with or without its offsets
as_asked : (bare : Bool) (text asked : List ℕ) → (bare ≡ false → asked ≡ text) → (bare ≡ true → asked ≡ without_offsets [] text)
    → asked ≡ (if bare then without_offsets [] text else text)
as_asked true text asked whole offsets = offsets refl
as_asked false text asked whole offsets = whole refl

pub is_header : {E : Type 0} (bare : Bool) (bytes fields asked : List ℕ) (form : TableForm) → IsNamed form (names_in (field_at 0 4 bytes) bytes)
    → fields ≡ table_text form None (take 36 bytes) → (bare ≡ false → asked ≡ fields) → (bare ≡ true → asked ≡ without_offsets [] fields)
    → (result : Result (Vec ℕ Global) E) → IfOk result (λ text. text.items ≡ comment asked) → IfOk result (λ text. IsHeader bare bytes text.items)
is_header bare bytes fields asked form named is whole offsets (Err error) made = tt
is_header bare bytes fields asked form named is whole offsets (Ok text) made = record {
  fields = fields;
  of = record { form = form; is_named = named; is = is };
  is = made ∙ ap comment (as_asked bare fields asked whole offsets);
}
