use Rattle.std.proofs.Common.{◌≡◌, drop}
use Rattle.acpi_text.specs.Size.{find_inner}
use Rattle.acpi_text.proofs.size.find_inner.Given as goal

abbrev pub invariant-loop-form : goal.invariant-loop-form
invariant-loop-form l = find_inner l.number (drop l.form-index l.forms) ≡ find_inner l.number l.forms
