use Rattle.std.proofs.Common.{◌≡◌, drop}
use Rattle.acpi_base.specs.Look.{bits_of}
use Rattle.acpi_make.specs.Value.{front_part}
use Rattle.acpi_make.proofs.value.front_part.Given as goal

abbrev pub invariant-parts : goal.invariant-parts
invariant-parts l = front_part (bits_of (drop l.part-index l.parts)) l.text ≡ front_part (bits_of l.parts) l.text
