use Rattle.std.proofs.Common.{◌≡◌, drop}
use Rattle.acpi_make.specs.Signature.{begins_with_length}
use Rattle.acpi_make.proofs.signature.begins_with_length.Given as goal

abbrev pub invariant-items : goal.invariant-items
invariant-items l =
    begins_with_length l.text (drop l.item-index l.items) ≡ begins_with_length l.text l.items
