use Rattle.std.proofs.Common.{◌^◌, ◌≤◌, refl, arith, length}
use Rattle.acpi_base.specs.declared.error.Error.TheVariants.{FieldWidth}
use Rattle.acpi_base.specs.Object.{whole}
use Rattle.acpi_base.proofs.Objects.{refused_unprovided}
use Rattle.acpi_core.specs.Structure.{fits_word}
use Rattle.acpi_core.proofs.Structures.{passes_a_word}
use Rattle.acpi_hest.specs.Resource.{resource_bytes}
use Rattle.acpi_hest.proofs.rqsc.resource.ResourceStructureAml.to_aml_bytes.Goals as goal

pub returns-then-size-gt65535-clause-err : goal.returns-then-size-gt65535-clause-err
returns-then-size-gt65535-clause-err g c =
    let bytes = resource_bytes c.args.self.now in
    let long : 2 ^ 16 ≤ length bytes = omega (arith, c.if-size-gt65535.true, c.len-size.ensures) in
    refused_unprovided FieldWidth FieldWidth (fits_word bytes) (whole bytes) _ (λ is. cc) (passes_a_word (length bytes) long) refl
