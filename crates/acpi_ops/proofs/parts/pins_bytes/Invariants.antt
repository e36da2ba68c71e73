use Rattle.std.proofs.Common.{◌≡◌, ◌++◌, drop}
use Rattle.acpi_ops.specs.Parts.{pins_bytes}
use Rattle.acpi_ops.proofs.parts.pins_bytes.Given as goal

abbrev pub invariant-pins : goal.invariant-pins
invariant-pins l = l.bytes.items ++ pins_bytes (drop l.pin-index l.pins) ≡ pins_bytes l.pins
