use Rattle.std.proofs.Common.{rules}
use Rattle.std.proofs.lemmas.Str.{IsAscii-drop}
use Rattle.acpi_read.proofs.Dotted.{dots_go_on}
use Rattle.acpi_read.proofs.report.words.push_segments.Goals as goal

pub loop-rest-preserved : goal.loop-rest-preserved
loop-rest-preserved c =
    let s = c.split_at.ensures in
    (dots_go_on _ _ _ _ _ c.loop-rest.rest.now c.loop-rest.invariant.0 c.loop-rest-test.true s.front s.back (search rules), rw s.back (IsAscii-drop _ 4 c.loop-rest.invariant.1))
