use Rattle.std.proofs.Common.{refl}
use Rattle.acpi_read.specs.Lines.{hex_bytes}
use Rattle.acpi_read.proofs.Texts.{goes_start, bytes_go_on, goes_done}
use Rattle.acpi_read.proofs.report.words.push_hex.Goals as goal

pub loop-byte-init : goal.loop-byte-init
loop-byte-init c = goes_start _ _ _

pub loop-byte-preserved : goal.loop-byte-preserved
loop-byte-preserved c = bytes_go_on hex_bytes c.args.bytes.now c.loop-byte.byte-index _ _ c.loop-byte.invariant _ _ c.loop-byte-test.true refl c.in_ok-push_hex_byte.ensures

pub returns : goal.returns
returns c = goes_done hex_bytes c.args.bytes.now c.loop-byte.byte-index _ _ c.loop-byte.invariant refl c.loop-byte-test.false
