use Rattle.std.proofs.Common.{◌≡◌, drop}
use Rattle.acpi_make.specs.Signature.{has_line}
use Rattle.acpi_make.proofs.signature.has_line.Given as goal

abbrev pub invariant-items : goal.invariant-items
invariant-items l = has_line l.name l.text (drop l.item-index l.items) ≡ has_line l.name l.text l.items
