use Rattle.std.proofs.Common.{◌≡◌, ◌++◌, drop}
use Rattle.acpi_compile.specs.Squeeze.{squeezed_from, squeezed}
use Rattle.acpi_compile.proofs.squeeze.squeezed.Given as goal

abbrev pub invariant-characters : goal.invariant-characters
invariant-characters l = l.kept.items ++ squeezed_from l.state (drop l.c-index l.unmarked) ≡ squeezed l.text
