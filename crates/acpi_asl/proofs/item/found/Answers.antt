use Rattle.std.proofs.Common.{refl}
use Rattle.acpi_asl.specs.Descriptor.{descriptors}
use Rattle.acpi_asl.proofs.Items.{found_is}
use Rattle.acpi_asl.proofs.item.found.Goals as goal

pub returns-then-item-size_of : goal.returns-then-item-size_of
returns-then-item-size_of c =
    found_is c.args.item.now c.size_of.result descriptors c.found_from.result c.if-item-size_of.true
    c.size_of.ensures refl c.found_from.ensures
