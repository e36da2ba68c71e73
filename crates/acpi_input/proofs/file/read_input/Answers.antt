use Rattle.std.proofs.Common.{◌^◌}
use Rattle.acpi_input.proofs.Readers.{read}
use Rattle.acpi_input.proofs.file.read_input.Goals as goal

pub returns : goal.returns
returns g c =
    read g.I.Read.remaining c.args.input (2 ^ 32) c.take.result c.new-bytes.result.items c.read_to_end.new.buf.items c.take.ensures.inner c.take.ensures.limit c.new-bytes.ensures.items c.in_ok-read_to_end.ensures.bytes
