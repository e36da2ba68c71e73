use Rattle.std.proofs.Common.{◌≡◌, ◌∷◌, ◌++◌, [], List, map, string_bytes, rules, arith, ap, ◌∙◌, refl}
use Rattle.std.proofs.lemmas.List.{map-append}
use Rattle.acpi_term.proofs.Depths.{first_shallow, others_shallow, element_shallow}
use Rattle.acpi_term.specs.declared.term.Term.{Term}
use Rattle.acpi_term.specs.Tree.{depth}
use Rattle.acpi_term.specs.View.{views, head_of}
use Rattle.acpi_terms_text.specs.Comment.{has_ids, note}
use Rattle.acpi_terms_text.specs.Woven.{notes}
use Rattle.acpi_terms_text.proofs.Runs.{runs_start, runs_on, runs_done}
use Rattle.acpi_terms_text.proofs.Walks.{notes_step, noted_over}
use Rattle.acpi_terms_text.proofs.note.+notes.Goals as goal

pub add_notes-loop-term-init : goal.add_notes-loop-term-init
add_notes-loop-term-init t c = runs_start _ _ _

pub add_notes-add_note-requires : goal.add_notes-add_note-requires
add_notes-add_note-requires t c =
    let shallow = element_shallow c.args.terms.now c.loop-term.term-index c.term-item.result c.loop-term-test.true c.term-item.is in
    (omega (arith, shallow, c.decreases), tt)

pub add_notes-loop-term-preserved : goal.add_notes-loop-term-preserved
add_notes-loop-term-preserved t c =
    runs_on (λ (terms : List Term). notes c.args.ids (views terms)) _ _ _ _ c.loop-term.invariant c.term-item.result _ _ c.loop-term-test.true c.term-item.is (notes_step c.args.ids c.term-item.result _) c.in_ok-add_note.ensures

pub add_notes-returns : goal.add_notes-returns
add_notes-returns t c = runs_done (λ (terms : List Term). notes c.args.ids (views terms)) _ _ _ _ c.loop-term.invariant refl c.loop-term-test.false

pub add_note-add_notes-requires : goal.add_note-add_notes-requires
add_note-add_notes-requires t c =
    let p = c.parts_of-parts.result in
    let shallow = first_shallow p.first.now p.others.now in
    (omega (arith, shallow, ap depth c.parts_of-parts.ensures.children, c.decreases), tt)

pub add_note-add_notes-requires-2 : goal.add_note-add_notes-requires-2
add_note-add_notes-requires-2 t c =
    let p = c.parts_of-parts.result in
    let shallow = others_shallow p.first.now p.others.now in
    (omega (arith, shallow, ap depth c.parts_of-parts.ensures.children, c.decreases), tt)

pub add_note-returns : goal.add_note-returns
add_note-returns t c =
    let p = c.parts_of-parts.result in
    let apart = c.parts_of-parts.ensures in
    let into : c.has_ids-inner.result ≡ has_ids c.args.ids (head_of p.kind) = search rules in
    let said : string_bytes c.push_note.new.text ≡ note c.args.ids (head_of p.kind) p.width (views (p.first.now ++ p.others.now)) = search rules in
    let pushed : map string_bytes c.push.new.self.items ≡ map string_bytes c.args.texts.now.items ++ (string_bytes c.push_note.new.text ∷ []) = ap (map string_bytes) c.in_ok-push.ensures.items ∙ map-append string_bytes _ _ in
    noted_over c.args.ids c.has_ids-inner.result c.args.term.now _ _ p.first.now p.others.now apart into _ (said ∙ ap (note c.args.ids (head_of p.kind) p.width) apart.children) _ _ _ _ _ pushed c.in_ok-add_own.ensures c.in_ok-add_notes.ensures c.in_ok-add_notes-2.ensures
