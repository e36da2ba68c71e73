use Rattle.std.proofs.Common.{◌+◌, ◌*◌, length}
use Rattle.acpi_term.specs.View.{views}
use Rattle.acpi_read.specs.TermReader.{grammar}
use Rattle.acpi_read.proofs.InParts.{PartRead}
use Rattle.acpi_read.proofs.terms.in_part.+part.Given as goal

abbrev pub decreases-frame : goal.decreases-frame
decreases-frame l = 4 * l.reader.now.depth + 1

abbrev pub decreases-one : goal.decreases-one
decreases-one l = 4 * l.reader.now.depth + 2

abbrev pub decreases-list : goal.decreases-list
decreases-list l = 4 * l.reader.now.depth + 3

abbrev pub decreases-branch : goal.decreases-branch
decreases-branch l = 4 * l.reader.now.depth + 4

abbrev pub invariant-list-list : goal.invariant-list-list
invariant-list-list l = PartRead (grammar l.reader) l.reader.depth l.end l.bytes (views l.terms.items) l.rest

abbrev pub decreases-list-list : goal.decreases-list-list
decreases-list-list l = length l.rest
