use Rattle.std.proofs.Common.{◌≡◌, drop}
use Rattle.acpi_forms.specs.Named.{find_form}
use Rattle.acpi_forms.proofs.form.find_form.Given as goal

abbrev pub invariant-loop-row : goal.invariant-loop-row
invariant-loop-row l = find_form l.signature (drop l.row-index l.rows) l.other ≡ find_form l.signature l.rows l.other
