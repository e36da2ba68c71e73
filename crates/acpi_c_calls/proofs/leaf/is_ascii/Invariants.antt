use Rattle.std.proofs.Common.{◌≡◌, drop}
use Rattle.acpi_c_calls.specs.Leaf.{is_ascii}
use Rattle.acpi_c_calls.proofs.leaf.is_ascii.Given as goal

abbrev pub invariant-bytes : goal.invariant-bytes
invariant-bytes l = is_ascii (drop l.byte-index l.bytes) ≡ is_ascii l.bytes
