use Rattle.std.proofs.Common.{◌-◌, ◌%◌, ◌∙◌, arith}
use Rattle.std.proofs.Math.ListN.{length-set}
use Rattle.acpi_make.proofs.Fields.{written_more}
use Rattle.acpi_make.specs.declared.item.Cell.TheVariants.{Byte}
use Rattle.acpi_make.proofs.complete.write.Goals as goal

pub bytes-preserved : goal.bytes-preserved
bytes-preserved c = record {
  within = omega (arith, length-set c.bytes.cells c.bytes.at (Byte (c.bytes.rest % 256)), c.bytes.invariant.within, c.bytes-test.true);
  same =
      written_more c.bytes.at c.bytes.left (c.bytes.left - 1) c.bytes.rest c.bytes.cells (omega (arith, c.bytes-test.true))
      (omega (arith, c.bytes.invariant.within, c.bytes-test.true))
      ∙ c.bytes.invariant.same;
}
