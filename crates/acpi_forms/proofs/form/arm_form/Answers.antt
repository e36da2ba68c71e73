use Rattle.std.proofs.Common.{refl}
use Rattle.acpi_forms.specs.Named.{arm_tables}
use Rattle.acpi_forms.proofs.Named.{form_is_named}
use Rattle.acpi_forms.proofs.form.arm_form.Goals as goal

pub returns : goal.returns
returns c =
    form_is_named c.args.signature _ arm_tables _ _ _ c.find_form.ensures (
      refl,
      c.gtdt_form.ensures,
      (
        refl,
        c.dbg2_form.ensures,
        (
          refl,
          c.iort_form.ensures,
          (tt),
        ),
      ),
    ) c.pc_form-other.ensures
