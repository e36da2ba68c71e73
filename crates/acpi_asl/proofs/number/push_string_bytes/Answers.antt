use Rattle.std.proofs.Common.{refl}
use Rattle.acpi_read.proofs.Texts.{goes_start, bytes_go_on, goes_done}
use Rattle.acpi_asl.specs.Number.{string_bytes_text}
use Rattle.acpi_asl.proofs.number.push_string_bytes.Goals as goal

pub loop-byte-init : goal.loop-byte-init
loop-byte-init c = goes_start _ _ _

pub loop-byte-preserved : goal.loop-byte-preserved
loop-byte-preserved c = bytes_go_on (string_bytes_text c.args.escape.now) c.args.bytes.now c.loop-byte.byte-index _ _ c.loop-byte.invariant _ _ c.loop-byte-test.true refl c.in_ok-push_string_byte.ensures

pub returns : goal.returns
returns c = goes_done (string_bytes_text c.args.escape.now) c.args.bytes.now c.loop-byte.byte-index _ _ c.loop-byte.invariant refl c.loop-byte-test.false
