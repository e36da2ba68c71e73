use Rattle.std.proofs.Common.{◌≡◌, ◌++◌, drop}
use Rattle.acpi_make.specs.Template.{all_ones}
use Rattle.acpi_make.proofs.template.all_ones.Given as goal

abbrev pub invariant-parts : goal.invariant-parts
invariant-parts l = l.ones.items ++ all_ones (drop l.part-index l.parts) ≡ all_ones l.parts
