use Rattle.std.proofs.Common.{◌∙◌, ◌+◌, ◌≤◌, ap, arith, length}
use Rattle.std.specs.Prelude.{slice_index_or}
use Rattle.acpi_base.specs.Record.{field_bytes}
use Rattle.acpi_base.specs.declared.record.Field.TheVariants.{Byte}
use Rattle.acpi_base.proofs.Puts.{length-put}
use Rattle.acpi_base.proofs.Records.{field_within, length-fields_more, field_written, all_written}
use Rattle.acpi_base.proofs.record.record.Goals as goal

pub write_field-at-requires : goal.write_field-at-requires
write_field-at-requires g c =
    let within = field_within c.args.fields.now c.loop-field.field-index (Byte 0) c.loop-field-test.true in
    omega (arith, within, c.loop-field.invariant.at, c.loop-field.invariant.size, c.requires)

pub loop-field-preserved : goal.loop-field-preserved
loop-field-preserved g c =
    let within = field_within c.args.fields.now c.loop-field.field-index (Byte 0) c.loop-field-test.true in
    let fits : c.loop-field.at + length (field_bytes (slice_index_or c.args.fields.now c.loop-field.field-index (Byte 0))) ≤ length c.loop-field.bytes = omega (arith, within, c.loop-field.invariant.at, c.loop-field.invariant.size, c.requires) in
    record {
      size = ap length c.write_field-at.ensures.bytes ∙ length-put _ _ _ fits ∙ c.loop-field.invariant.size;
      at = omega (arith, c.write_field-at.ensures.at, c.loop-field.invariant.at, length-fields_more c.args.fields.now c.loop-field.field-index (Byte 0) c.loop-field-test.true);
      written = field_written c.args.fields.now c.loop-field.field-index (Byte 0) c.loop-field-test.true _ _ _ _ c.loop-field.invariant.at c.loop-field.invariant.written fits c.write_field-at.ensures.at c.write_field-at.ensures.bytes;
    }

pub returns : goal.returns
returns g c = all_written _ _ _ _ _ c.loop-field-test.false c.loop-field.invariant.size c.loop-field.invariant.at c.loop-field.invariant.written c.requires
