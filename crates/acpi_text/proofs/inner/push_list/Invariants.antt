use Rattle.std.proofs.Common.{◌≡◌, ◌≤◌, length, drop, string_bytes}
use Rattle.acpi_text.specs.Size.{inner_size}
use Rattle.acpi_text.specs.Structure.{inner_text}
use Rattle.acpi_text.specs.Slot.{nameless}
use Rattle.acpi_text.proofs.Pieces.{Goes}
use Rattle.acpi_text.proofs.inner.push_list.Given as goal

abbrev pub invariant-inners : goal.invariant-inners
invariant-inners l = record {
  within : l.at ≤ length l.bytes;
  back : l.rest ≡ drop l.at l.bytes;
  shown : Goes (inner_size l.list) (inner_text l.list) nameless l.count l.start l.bytes (string_bytes l.initial.text) l.left l.at l.rest (string_bytes l.text);
}

abbrev pub decreases-inners : goal.decreases-inners
decreases-inners l = l.left
