use Rattle.std.proofs.Common.{◌≡◌, ◌++◌, take, None}
use Rattle.acpi_term.specs.Row.{entries_bytes, entries_end}
use Rattle.acpi_ops.specs.Element.{elements_of}
use Rattle.acpi_ops.proofs.element.append_elements.Given as goal

abbrev pub invariant-loop-element : goal.invariant-loop-element
invariant-loop-element l = record {
  joined : l.bytes.items ≡ l.initial.bytes.items ++ entries_bytes (elements_of (take l.element-index l.elements));
  whole : entries_end (elements_of (take l.element-index l.elements)) ≡ None;
}
