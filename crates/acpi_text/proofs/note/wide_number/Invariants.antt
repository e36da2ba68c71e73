use Rattle.std.proofs.Common.{◌≡◌, ◌≤◌, drop, length}
use Rattle.acpi_base.specs.Bytes.{carried}
use Rattle.acpi_text.proofs.note.wide_number.Given as goal

abbrev pub invariant-bytes : goal.invariant-bytes
invariant-bytes l = record {
  within : l.left ≤ length l.bytes;
  value : l.number ≡ carried (drop l.left l.bytes);
}

abbrev pub decreases-bytes : goal.decreases-bytes
decreases-bytes l = l.left
