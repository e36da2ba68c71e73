use Rattle.std.proofs.Common.{refl}
use Rattle.acpi_read.specs.Lines.{quoted_bytes}
use Rattle.acpi_read.proofs.Texts.{goes_start, bytes_go_on, goes_done}
use Rattle.acpi_read.proofs.report.words.push_quoted.Goals as goal

pub loop-byte-init : goal.loop-byte-init
loop-byte-init c = goes_start _ _ _

pub loop-byte-preserved : goal.loop-byte-preserved
loop-byte-preserved c = bytes_go_on quoted_bytes c.args.bytes.now c.loop-byte.byte-index _ _ c.loop-byte.invariant _ _ c.loop-byte-test.true refl c.in_ok-push_quoted_byte.ensures

pub returns : goal.returns
returns c = goes_done quoted_bytes c.args.bytes.now c.loop-byte.byte-index _ _ c.loop-byte.invariant refl c.loop-byte-test.false
