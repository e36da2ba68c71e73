use Rattle.std.proofs.Common.{take, string_bytes}
use Rattle.acpi_text.specs.Form.{parts_slots}
use Rattle.acpi_text.specs.Slot.{Showed}
use Rattle.acpi_text.proofs.part.push_parts.Given as goal

abbrev pub invariant-parts : goal.invariant-parts
invariant-parts l = Showed (parts_slots l.depth l.start l.whole (take l.part-index l.parts)) l.start l.whole (string_bytes l.initial.text) (string_bytes l.text) l.at
