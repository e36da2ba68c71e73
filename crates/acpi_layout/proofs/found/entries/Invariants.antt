use Rattle.std.proofs.Common.{◌≡◌, ℕ, ◌+◌, ◌*◌, ◌<◌, length, get_or}
use Rattle.acpi_base.specs.Bytes.{field_at}
use Rattle.acpi_layout.specs.Addresses.{memory_of}
use Rattle.acpi_layout.specs.declared.located.Located.{Located}
use Rattle.acpi_layout.specs.Found.{entry_width, IsTableAt}
use Rattle.acpi_layout.proofs.found.entries.Given as goal

abbrev pub invariant-loop-i : goal.invariant-loop-i
invariant-loop-i l = record {
  counted : length l.entries.items ≡ l.i;
  each : (k : ℕ) (d : Located) → k < l.i
      → IsTableAt (memory_of l.ranges) (field_at (36 + entry_width l.root * k) (entry_width l.root) l.whole) (get_or l.entries.items k d);
}
