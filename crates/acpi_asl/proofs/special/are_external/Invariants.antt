use Rattle.std.proofs.Common.{◌≡◌, drop}
use Rattle.acpi_term.specs.View.{views}
use Rattle.acpi_asl.specs.Special.{are_external}
use Rattle.acpi_asl.proofs.special.are_external.Given as goal

abbrev pub invariant-loop-term : goal.invariant-loop-term
invariant-loop-term l = are_external (views (drop l.term-index l.terms)) ≡ are_external (views l.terms)
