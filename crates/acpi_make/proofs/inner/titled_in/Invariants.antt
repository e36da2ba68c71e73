use Rattle.std.proofs.Common.{◌≡◌, drop}
use Rattle.acpi_make.specs.Inner.{titled_in}
use Rattle.acpi_make.proofs.inner.titled_in.Given as goal

abbrev pub invariant-forms : goal.invariant-forms
invariant-forms l = titled_in l.line (drop l.form-index l.forms) ≡ titled_in l.line l.forms
