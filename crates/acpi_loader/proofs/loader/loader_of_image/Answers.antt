use Rattle.std.proofs.Common.{arith}
use Rattle.acpi_loader.proofs.Placed.{small_image}
use Rattle.acpi_loader.proofs.loader.loader_of_image.Goals as goal

pub loader_for-requires : goal.loader_for-requires
loader_for-requires c = small_image _ c.args.image.now c.requires (omega (arith, c.len.ensures, c.args.image.now.bytes.ok.0, c.if-len.false))

pub returns-then-len-clause-err : goal.returns-then-len-clause-err
returns-then-len-clause-err c = (c.args.image.now, c.requires, omega (arith, c.len.ensures, c.args.image.now.bytes.ok.0, c.if-len.true))
