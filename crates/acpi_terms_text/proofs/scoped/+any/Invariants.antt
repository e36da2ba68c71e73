use Rattle.std.proofs.Common.{◌≡◌, ◌+◌, ◌*◌, drop}
use Rattle.acpi_term.specs.Tree.{depth}
use Rattle.acpi_term.specs.View.{view, views, single}
use Rattle.acpi_terms_text.specs.Scoped.{any, sought}
use Rattle.acpi_terms_text.proofs.scoped.+any.Given as goal

abbrev pub decreases-any : goal.decreases-any
decreases-any l = 2 * depth (views l.terms.now) + 1

abbrev pub decreases-has : goal.decreases-has
decreases-has l = 2 * depth (single (view l.term.now))

abbrev pub invariant-any-loop-term : goal.invariant-any-loop-term
invariant-any-loop-term l = any (sought l.sought) (views (drop l.term-index l.terms)) ≡ any (sought l.sought) (views l.terms)
