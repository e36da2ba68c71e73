use Rattle.std.proofs.Common.{◌≡◌, ◌≤◌, drop}
use Rattle.acpi_make.specs.Fault.{end_after}
use Rattle.acpi_make.proofs.fault.without_end.Given as goal

abbrev pub invariant-characters : goal.invariant-characters
invariant-characters l = record {
  within : l.end ≤ l.i;
  same : end_after l.i l.end (drop l.i l.part) ≡ end_after 0 0 l.part;
}
