use Rattle.std.proofs.Common.{refl}
use Rattle.acpi_forms.specs.FurtherNames.{arm_faults_tables}
use Rattle.acpi_forms.proofs.Named.{read_is_named}
use Rattle.acpi_forms.proofs.form.arm_faults_form.Goals as goal

pub returns : goal.returns
returns c = read_is_named c.args.signature _ arm_faults_tables _ _ _ c.find_form.ensures refl c.arm_errors_form.ensures
