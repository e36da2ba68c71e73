use Rattle.std.proofs.Common.{◌≡◌, ◌++◌, drop}
use Rattle.acpi_make.specs.Template.{counts_at}
use Rattle.acpi_make.proofs.template.push_counts.Given as goal

abbrev pub invariant-parts : goal.invariant-parts
invariant-parts l = l.own.items ++ counts_at (drop l.part-index l.parts) ≡ l.initial.own.items ++ counts_at l.parts
