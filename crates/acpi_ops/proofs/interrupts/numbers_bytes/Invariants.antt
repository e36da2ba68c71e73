use Rattle.std.proofs.Common.{◌≡◌, ◌++◌, drop}
use Rattle.acpi_ops.specs.Interrupts.{numbers_bytes}
use Rattle.acpi_ops.proofs.interrupts.numbers_bytes.Given as goal

abbrev pub invariant-numbers : goal.invariant-numbers
invariant-numbers l = l.bytes.items ++ numbers_bytes (drop l.number-index l.numbers) ≡ numbers_bytes l.numbers
