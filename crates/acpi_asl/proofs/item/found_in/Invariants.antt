use Rattle.std.proofs.Common.{◌≡◌, drop}
use Rattle.acpi_asl.specs.Template.{found_in}
use Rattle.acpi_asl.proofs.item.found_in.Given as goal

abbrev pub invariant-descriptors : goal.invariant-descriptors
invariant-descriptors l = found_in (drop l.descriptor-index l.descriptors) l.item ≡ found_in l.descriptors l.item
