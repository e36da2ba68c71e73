use Rattle.std.proofs.Common.{◌≡◌, drop}
use Rattle.acpi_make.specs.Signature.{first_byte}
use Rattle.acpi_make.proofs.signature.first_byte.Given as goal

abbrev pub invariant-items : goal.invariant-items
invariant-items l = first_byte (drop l.i l.items) ≡ first_byte l.items
