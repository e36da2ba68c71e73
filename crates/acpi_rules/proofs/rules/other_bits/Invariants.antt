use Rattle.std.proofs.Common.{◌≡◌, drop}
use Rattle.acpi_base.specs.Look.{bits_of}
use Rattle.acpi_rules.specs.Rules.{other_bits}
use Rattle.acpi_rules.proofs.rules.other_bits.Given as goal

abbrev pub invariant-parts : goal.invariant-parts
invariant-parts l = other_bits (bits_of (drop l.part-index l.parts)) l.left ≡ other_bits (bits_of l.parts) l.number
