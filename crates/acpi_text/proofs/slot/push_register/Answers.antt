use Rattle.std.proofs.Common.{◌+◌, [], ◌∷◌, refl}
use Rattle.acpi_text.specs.Slot.{heading, register_slots}
use Rattle.acpi_text.proofs.Shown.{slice_rest, showed_more}
use Rattle.acpi_text.proofs.slot.push_register.Goals as goal

pub returns : goal.returns
returns c =
    showed_more (heading c.args.depth c.args.name.now ∷ []) (register_slots (c.args.depth + 1)) c.args.offset
    (c.args.offset + c.in_ok-none.none) c.args.bytes.now _ _ _ _ c.in_ok-none.none _ c.in_ok-none.ensures refl
    (slice_rest c.args.bytes.now c.in_ok-none.none) c.in_ok-push_row_fields.ensures
