use Rattle.std.proofs.Common.{◌≡◌, ◌≤◌, take, length}
use Rattle.acpi_text.specs.Note.{trimmed}
use Rattle.acpi_text.proofs.note.trimmed.Given as goal

abbrev pub invariant-zeros : goal.invariant-zeros
invariant-zeros l = record {
  within : l.end ≤ length l.bytes;
  same : trimmed (take l.end l.bytes) ≡ trimmed l.bytes;
}

abbrev pub decreases-zeros : goal.decreases-zeros
decreases-zeros l = l.end
