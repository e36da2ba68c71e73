use Rattle.std.proofs.Common.{◌+◌, ◌*◌}
use Rattle.acpi_term.specs.Tree.{depth}
use Rattle.acpi_term.specs.View.{view, views, single}
use Rattle.acpi_term.proofs.Spells.{TermsGo}
use Rattle.acpi_term.proofs.spell.+spell.Given as goal

abbrev pub decreases-spell_all : goal.decreases-spell_all
decreases-spell_all l = 2 * depth (views l.terms.now) + 1

abbrev pub decreases-spell_term : goal.decreases-spell_term
decreases-spell_term l = 2 * depth (single (view l.term.now))

abbrev pub invariant-spell_all-loop-term : goal.invariant-spell_all-loop-term
invariant-spell_all-loop-term l = TermsGo l.terms l.term-index l.initial.bytes.items l.bytes.items
