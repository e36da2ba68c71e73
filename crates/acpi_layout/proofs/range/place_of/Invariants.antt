use Rattle.std.proofs.Common.{◌≡◌, drop}
use Rattle.acpi_layout.specs.Addresses.{memory_of}
use Rattle.acpi_layout.proofs.range.place_of.Given as goal

abbrev pub invariant-loop-place : goal.invariant-loop-place
invariant-loop-place l = memory_of (drop l.place l.ranges) l.address ≡ memory_of l.ranges l.address
