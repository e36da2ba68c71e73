use Rattle.std.proofs.Common.{rules}
use Rattle.acpi_text.proofs.Spaces.{byte_goes_on, printed_at}
use Rattle.acpi_text.proofs.note.push_quoted.Goals as goal

pub bytes-preserved : goal.bytes-preserved
bytes-preserved c =
    let small = printed_at c.args.bytes.now c.bytes.byte-index c.bytes-test.true c.requires in
    byte_goes_on c.args.bytes.now c.bytes.byte-index _ _ _ c.bytes-test.true c.bytes.invariant (search rules)
