use Rattle.std.proofs.Common.{◌-◌, ◌≤◌, [], ◌∷◌, string_bytes}
use Rattle.acpi_text.specs.Form.{repeated}
use Rattle.acpi_text.specs.Slot.{field_of, Showed}
use Rattle.acpi_text.proofs.part.push_fields.Given as goal

abbrev pub invariant-fields : goal.invariant-fields
invariant-fields l = record {
  few : l.done ≤ l.count;
  shown : Showed (repeated l.done (field_of l.form ∷ [])) l.offset l.bytes (string_bytes l.initial.text) (string_bytes l.text) l.at;
}

abbrev pub decreases-fields : goal.decreases-fields
decreases-fields l = l.count - l.done
