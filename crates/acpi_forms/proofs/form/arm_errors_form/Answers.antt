use Rattle.std.proofs.Common.{refl}
use Rattle.acpi_forms.specs.FurtherNames.{arm_errors_tables}
use Rattle.acpi_forms.proofs.Named.{form_is_named}
use Rattle.acpi_forms.proofs.form.arm_errors_form.Goals as goal

pub returns : goal.returns
returns c =
    form_is_named c.args.signature _ arm_errors_tables _ _ _ c.find_form.ensures (
      refl,
      c.aest_form.ensures,
      (tt),
    ) c.devices_form-other.ensures
