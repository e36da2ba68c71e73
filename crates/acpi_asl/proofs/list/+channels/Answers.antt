use Rattle.std.proofs.Common.{string_bytes}
use Rattle.acpi_asl.proofs.Items.{no_channels}
use Rattle.acpi_asl.proofs.list.+channels.Goals as goal

pub returns-then-mask-eq0 : goal.returns-then-mask-eq0
returns-then-mask-eq0 t c =
    no_channels c.args.first c.args.i c.args.left c.args.mask (string_bytes c.args.text.now) c.if-mask-eq0.true
