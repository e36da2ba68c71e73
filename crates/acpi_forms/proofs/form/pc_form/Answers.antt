use Rattle.std.proofs.Common.{refl}
use Rattle.acpi_forms.specs.Named.{pc_tables}
use Rattle.acpi_forms.proofs.Named.{form_is_named}
use Rattle.acpi_forms.proofs.form.pc_form.Goals as goal

pub returns : goal.returns
returns c =
    form_is_named c.args.signature _ pc_tables _ _ _ c.find_form.ensures (
      refl,
      c.hpet_form.ensures,
      (
        refl,
        c.waet_form.ensures,
        (
          refl,
          c.bgrt_form.ensures,
          (
            refl,
            c.wsmt_form.ensures,
            (tt),
          ),
        ),
      ),
    ) c.boot_form-other.ensures
