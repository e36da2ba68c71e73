use Rattle.std.proofs.Common.{[], ◌∷◌, take, string_bytes}
use Rattle.std.specs.List.{flat_map}
use Rattle.acpi_text.specs.Slot.{row_slot, Showed}
use Rattle.acpi_text.proofs.slot.push_row_fields.Given as goal

abbrev pub invariant-rows : goal.invariant-rows
invariant-rows l =
    Showed (flat_map (λ row. row_slot l.depth row ∷ []) (take l.row-index l.rows)) l.offset l.bytes
    (string_bytes l.initial.text) (string_bytes l.text) l.at
