use Rattle.acpi_dump.proofs.FirstLine.{before_feed, without_feed}
use Rattle.acpi_dump.proofs.lines.split_line.Goals as goal

pub returns-then-size-text-clause-lines : goal.returns-then-size-text-clause-lines
returns-then-size-text-clause-lines c =
    before_feed c.args.text.now c.line_len-size.result c.line_len-size.ensures c.requires

pub returns-else-size-text-clause-lines : goal.returns-else-size-text-clause-lines
returns-else-size-text-clause-lines c =
    without_feed c.args.text.now c.line_len-size.result c.line_len-size.ensures c.requires c.if-size-text.false
