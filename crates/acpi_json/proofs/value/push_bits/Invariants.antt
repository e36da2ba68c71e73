use Rattle.std.proofs.Common.{◌≡◌, ◌++◌, true, drop}
use Rattle.acpi_base.specs.Look.{bits_of}
use Rattle.acpi_json.specs.Value.{bits}
use Rattle.acpi_json.proofs.value.push_bits.Given as goal

abbrev pub invariant-parts : goal.invariant-parts
invariant-parts l =
    l.text.items ++ bits (bits_of (drop l.part-index l.parts)) l.left.first l.left.number
    ≡ l.initial.text.items ++ bits (bits_of l.parts) true l.number
