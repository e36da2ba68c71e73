use Rattle.std.proofs.Common.{◌≡◌, ℕ, ◌+◌, ◌*◌, ◌<◌, length, get_or}
use Rattle.acpi_base.specs.Bytes.{field_at}
use Rattle.acpi_layout.proofs.found.addresses.Given as goal

abbrev pub invariant-loop-i : goal.invariant-loop-i
invariant-loop-i l = record {
  counted : length l.addresses.items ≡ l.i;
  each : (k : ℕ) → k < l.i → get_or l.addresses.items k 0 ≡ field_at (36 + 8 * k) 8 l.whole;
}
