use Rattle.std.proofs.Common.{◌-◌, ◌≤◌, string_bytes}
use Rattle.acpi_text.specs.Form.{repeated, group_slots}
use Rattle.acpi_text.specs.Slot.{Showed}
use Rattle.acpi_text.proofs.part.push_entries.Given as goal

abbrev pub invariant-entries : goal.invariant-entries
invariant-entries l = record {
  few : l.done ≤ l.count;
  shown : Showed (repeated l.done (group_slots l.depth l.name l.rows)) l.offset l.bytes (string_bytes l.initial.text) (string_bytes l.text) l.at;
}

abbrev pub decreases-entries : goal.decreases-entries
decreases-entries l = l.count - l.done
