use Rattle.std.proofs.Common.{◌≡◌, ◌+◌, ◌*◌, drop}
use Rattle.acpi_term.specs.Tree.{depth}
use Rattle.acpi_term.specs.View.{view, views, single}
use Rattle.acpi_terms_text.specs.Scoped.{any}
use Rattle.acpi_asl.specs.Absent.{uses_name}
use Rattle.acpi_asl.proofs.absent.+uses.Given as goal

abbrev pub decreases-use_names : goal.decreases-use_names
decreases-use_names l = 2 * depth (views l.terms.now) + 1

abbrev pub decreases-uses_names : goal.decreases-uses_names
decreases-uses_names l = 2 * depth (single (view l.term.now))

abbrev pub invariant-use_names-loop-term : goal.invariant-use_names-loop-term
invariant-use_names-loop-term l = any uses_name (views (drop l.term-index l.terms)) ≡ any uses_name (views l.terms)
