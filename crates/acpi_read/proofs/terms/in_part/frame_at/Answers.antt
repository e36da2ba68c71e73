use Rattle.std.proofs.Common.{rules}
use Rattle.acpi_read.specs.TermReader.{grammar}
use Rattle.acpi_read.proofs.InParts.{opened_frame, unopened_frame}
use Rattle.acpi_read.proofs.terms.in_part.frame_at.Goals as goal

pub returns-in-Ok : goal.returns-in-Ok
returns-in-Ok c =
    opened_frame (grammar c.args.reader.now) c.args.reader.now.depth c.args.bytes.now c.in-Ok.opened c.frame_of.result c.in-Ok.ensures.gives c.frame_of.ensures c.in-Ok.ensures.within

pub returns-in-Err : goal.returns-in-Err
returns-in-Err c = unopened_frame (grammar c.args.reader.now) c.args.reader.now.depth c.args.bytes.now c.in-Err.field-0 (search rules) c.in-Err.ensures.gives
