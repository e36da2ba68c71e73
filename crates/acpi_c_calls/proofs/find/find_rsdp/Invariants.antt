use Rattle.std.proofs.Common.{ℕ, ◌*◌, ◌<◌, drop}
use Rattle.acpi_c_calls.specs.Find.{IsPointer}
use Rattle.acpi_c_calls.proofs.find.find_rsdp.Given as goal

abbrev pub invariant-places : goal.invariant-places
invariant-places l = (k : ℕ) → k < l.index → ¬ IsPointer (drop (16 * k) l.bytes)
