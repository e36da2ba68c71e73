-- The texts of errors.
use Rattle.std.specs.Prelude.{ℕ, List, codes}
use Rattle.acpi_base.specs.Error as base
use Rattle.acpi_build.specs.declared.error.BuildError.{BuildError}
use Rattle.acpi_build.specs.declared.error.BuildError.TheVariants as errors

abbrev pub text_of : BuildError → List ℕ
text_of (errors.Object e) = base.text_of e
text_of errors.Operands = codes "an operator has another number of operands"
text_of errors.NoneOpen = codes "no object is open"
text_of errors.StillOpen = codes "an object is still open"
