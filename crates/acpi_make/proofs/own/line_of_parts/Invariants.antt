use Rattle.std.proofs.Common.{◌≡◌, drop}
use Rattle.acpi_make.specs.Own.{line_of_parts}
use Rattle.acpi_make.proofs.own.line_of_parts.Given as goal

abbrev pub invariant-parts : goal.invariant-parts
invariant-parts l = line_of_parts l.text l.marks l.total (drop l.part-index l.parts) ≡ line_of_parts l.text l.marks l.total l.parts
