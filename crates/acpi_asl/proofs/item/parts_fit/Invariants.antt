use Rattle.std.proofs.Common.{◌≡◌, drop}
use Rattle.acpi_asl.specs.Template.{parts_fit}
use Rattle.acpi_asl.proofs.item.parts_fit.Given as goal

abbrev pub invariant-parts : goal.invariant-parts
invariant-parts l = parts_fit l.item (drop l.part-index l.parts) ≡ parts_fit l.item l.parts
