use Rattle.std.proofs.Common.{◌≡◌, take, length}
use Rattle.acpi_base.specs.Bytes.{zeros}
use Rattle.acpi_c_calls.proofs.over.clear.Given as goal

abbrev pub invariant-bytes : goal.invariant-bytes
invariant-bytes l = (take l.i l.bytes ≡ zeros l.i) × (length l.bytes ≡ length l.initial.bytes)
