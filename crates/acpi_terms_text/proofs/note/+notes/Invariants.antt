use Rattle.std.proofs.Common.{◌+◌, ◌*◌, List, map, string_bytes}
use Rattle.acpi_term.specs.declared.term.Term.{Term}
use Rattle.acpi_term.specs.Tree.{depth}
use Rattle.acpi_term.specs.View.{view, views, single}
use Rattle.acpi_terms_text.specs.Woven.{notes}
use Rattle.acpi_terms_text.proofs.Runs.{Runs}
use Rattle.acpi_terms_text.proofs.note.+notes.Given as goal

abbrev pub decreases-add_notes : goal.decreases-add_notes
decreases-add_notes l = 2 * depth (views l.terms.now) + 1

abbrev pub decreases-add_note : goal.decreases-add_note
decreases-add_note l = 2 * depth (single (view l.term.now))

abbrev pub invariant-add_notes-loop-term : goal.invariant-add_notes-loop-term
invariant-add_notes-loop-term l = Runs (λ (terms : List Term). notes l.ids (views terms)) l.terms l.term-index (map string_bytes l.initial.texts.items) (map string_bytes l.texts.items)
