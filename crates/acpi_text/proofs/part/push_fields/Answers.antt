use Rattle.std.proofs.Common.{◌+◌, [], ◌∷◌, refl, arith}
use Rattle.acpi_text.specs.Slot.{field_of}
use Rattle.acpi_text.proofs.Shown.{slice_rest, again, again_done}
use Rattle.acpi_text.proofs.part.push_fields.Goals as goal

pub fields-preserved : goal.fields-preserved
fields-preserved c = record {
  few = omega arith;
  shown = again (field_of c.args.form.now ∷ []) c.args.offset c.args.bytes.now _ c.fields.done (c.args.offset + c.fields.at) c.fields.at _ _ _ _ c.fields.invariant.shown refl (slice_rest c.args.bytes.now c.fields.at) c.in_ok-at.ensures;
}

pub returns-else-at-bytes : goal.returns-else-at-bytes
returns-else-at-bytes c = again_done (field_of c.args.form.now ∷ []) c.args.offset c.args.bytes.now _ c.fields.done c.args.count c.fields.at _ c.fields.invariant.few (λ less. omega (arith, c.fields.invariant.shown.within)) c.fields.invariant.shown
