-- Fields that are refused.
use Rattle.std.proofs.Common.{◌≡◌, ◌≢◌, ℕ, List, [], false, Some, refl, sym, ap, ◌∙◌}
use Rattle.std.specs.Prelude.{Result, Err, IsErrAnd}
use Rattle.std.proofs.lemmas.Result.{err_from_is_err_and}
use Rattle.acpi_base.specs.declared.error.Error.{Error}
use Rattle.acpi_base.specs.declared.error.Error.TheVariants.{Memory}
use Rattle.acpi_base.specs.Object.{Object, Built, IsOwnEnd}
use Rattle.acpi_term.specs.Row.{row}
use Rattle.acpi_aml.specs.Field.{field_head}
use Rattle.acpi_aml.specs.NameText.{name_of}
use Rattle.acpi_aml.specs.declared.field.FieldAccessType.{FieldAccessType}
use Rattle.acpi_aml.specs.declared.field.FieldLockRule.{FieldLockRule}
use Rattle.acpi_aml.specs.declared.field.FieldUpdateRule.{FieldUpdateRule}
use Rattle.acpi_aml.specs.declared.field.FieldEntry.{FieldEntry}
use Rattle.acpi_build.specs.declared.error.BuildError.{BuildError}
use Rattle.acpi_build.specs.declared.error.BuildError.TheVariants as errors
use Rattle.acpi_ops.specs.declared.element.FieldElement.{FieldElement}
use Rattle.acpi_ops.specs.Element.{field_list_head}
use Rattle.acpi_build.specs.Block.{Writing, Block, is_full, with_object, at_path, with_field, with_field_list, IsStep}

-- a step at a path that was made
placed : (text path : List ℕ) (step : List ℕ → Block) → Built (name_of text) path → at_path text step ≡ step path
placed text path step built = rw built.is_whole (ap step (sym built.is))

refused_object : (o : Object) (w : Writing) (e : Error) → is_full w.level.content ≡ false → o.end ≡ Some e → with_object o w ≡ Err (errors.Object e)
refused_object o w e room end = rw (room, end) refl

-- what the exit of a `?` returns
at_exit : (wanted : Block) (new : Writing) (r : Result (Unit {0}) BuildError) (x : BuildError) → IsErrAnd r (λ y. y ≡ x) → (x ≢ errors.Object Memory → wanted ≡ Err x) → IsStep wanted new r
at_exit wanted new r x is holds = let p = err_from_is_err_and r is in rw (p.1, p.2) holds

pub field_refused : (text path : List ℕ) (access : FieldAccessType) (lock : FieldLockRule) (update : FieldUpdateRule) (entries : List FieldEntry) (w new : Writing)
    (r : Result (Unit {0}) BuildError) (e : Error) → Built (name_of text) path → is_full w.level.content ≡ false
    → IsOwnEnd e (row (field_head path access lock update entries) []) → IsErrAnd r (λ y. y ≡ errors.Object e) → IsStep (with_field text access lock update entries w) new r
field_refused text path access lock update entries w new r e built room own is =
    at_exit (with_field text access lock update entries w) new r (errors.Object e) is (λ other.
    placed text path (λ path. with_object (row (field_head path access lock update entries) []) w) built
    ∙ refused_object (row (field_head path access lock update entries) []) w e room (own.cause (λ memory. other (ap errors.Object memory))))

pub field_list_refused : (text path : List ℕ) (access : FieldAccessType) (lock : FieldLockRule) (update : FieldUpdateRule) (elements : List FieldElement) (w new : Writing)
    (r : Result (Unit {0}) BuildError) (e : Error) → Built (name_of text) path → is_full w.level.content ≡ false
    → IsOwnEnd e (row (field_list_head path access lock update elements) []) → IsErrAnd r (λ y. y ≡ errors.Object e) → IsStep (with_field_list text access lock update elements w) new r
field_list_refused text path access lock update elements w new r e built room own is =
    at_exit (with_field_list text access lock update elements w) new r (errors.Object e) is (λ other.
    placed text path (λ path. with_object (row (field_list_head path access lock update elements) []) w) built
    ∙ refused_object (row (field_list_head path access lock update elements) []) w e room (own.cause (λ memory. other (ap errors.Object memory))))
