use Rattle.std.proofs.Common.{◌+◌, ◌*◌, List}
use Rattle.acpi_term.specs.declared.term.Term.{Term}
use Rattle.acpi_term.specs.Spelling.{spelling}
use Rattle.acpi_term.specs.Tree.{depth}
use Rattle.acpi_term.specs.View.{view, views, single}
use Rattle.acpi_read.specs.Size.{content_sizes}
use Rattle.acpi_read.proofs.Sizes.{Sums}
use Rattle.acpi_read.proofs.Texts.{Goes}
use Rattle.acpi_read.proofs.report.size.+size.Given as goal

abbrev pub decreases-add_all : goal.decreases-add_all
decreases-add_all l = 3 * depth (views l.terms.now) + 1

abbrev pub decreases-add_one : goal.decreases-add_one
decreases-add_one l = 3 * depth (single (view l.term.now))

abbrev pub decreases-add_any : goal.decreases-add_any
decreases-add_any l = 3 * depth (views l.terms.now) + 2

abbrev pub invariant-add_all-loop-term : goal.invariant-add_all-loop-term
invariant-add_all-loop-term l =
    Goes (λ (terms : List Term). content_sizes (views terms)) l.terms l.term-index l.initial.sizes.items l.sizes.items
    × Sums (λ (terms : List Term). spelling (views terms)) l.terms l.term-index l.all
