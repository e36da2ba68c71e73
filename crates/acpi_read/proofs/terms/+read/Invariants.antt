use Rattle.std.proofs.Common.{◌+◌, ◌*◌, length}
use Rattle.acpi_term.specs.View.{views}
use Rattle.acpi_read.specs.TermReader.{reads}
use Rattle.acpi_read.proofs.TermLists.{SeveralRead, AllRead}
use Rattle.acpi_read.proofs.terms.+read.Given as goal

abbrev pub decreases-term : goal.decreases-term
decreases-term l = 4 * l.reader.now.depth

abbrev pub decreases-all : goal.decreases-all
decreases-all l = 4 * l.reader.now.depth + 1

abbrev pub decreases-several : goal.decreases-several
decreases-several l = 4 * l.reader.now.depth + 1

abbrev pub decreases-close : goal.decreases-close
decreases-close l = 4 * l.reader.now.depth + 3

abbrev pub decreases-call : goal.decreases-call
decreases-call l = 4 * l.reader.now.depth + 2

abbrev pub decreases-operator : goal.decreases-operator
decreases-operator l = 4 * l.reader.now.depth + 2

abbrev pub decreases-region : goal.decreases-region
decreases-region l = 4 * l.reader.now.depth + 2

abbrev pub decreases-define : goal.decreases-define
decreases-define l = 4 * l.reader.now.depth + 2

abbrev pub decreases-fatal : goal.decreases-fatal
decreases-fatal l = 4 * l.reader.now.depth + 2

abbrev pub decreases-test : goal.decreases-test
decreases-test l = 4 * l.reader.now.depth + 2

abbrev pub decreases-block : goal.decreases-block
decreases-block l = 4 * l.reader.now.depth + 2

abbrev pub decreases-first_and_block : goal.decreases-first_and_block
decreases-first_and_block l = 4 * l.reader.now.depth + 2

abbrev pub decreases-package : goal.decreases-package
decreases-package l = 4 * l.reader.now.depth + 2

abbrev pub decreases-roomy : goal.decreases-roomy
decreases-roomy l = 4 * l.reader.now.depth + 2

abbrev pub decreases-buffer : goal.decreases-buffer
decreases-buffer l = 4 * l.reader.now.depth + 2

abbrev pub decreases-bank_field : goal.decreases-bank_field
decreases-bank_field l = 4 * l.reader.now.depth + 2

abbrev pub invariant-all-all : goal.invariant-all-all
invariant-all-all l = AllRead (reads l.reader) l.fn.mode l.bytes (views l.terms.items) l.at l.rest

abbrev pub decreases-all-all : goal.decreases-all-all
decreases-all-all l = length l.rest

abbrev pub invariant-several-several : goal.invariant-several-several
invariant-several-several l = SeveralRead (reads l.reader) l.fn.mode l.count l.counter l.bytes (views l.terms.items) l.at l.rest
