use Rattle.std.proofs.Common.{List, All, map, subst, sym, string_bytes}
use Rattle.acpitool_program.specs.Machine.{kept_by}
use Rattle.acpitool_program.specs.declared.machine.Kept.{Kept}
use Rattle.acpitool_program.proofs.Outcomes.{IsOfKind, gathered_and_shown, kinds_of_kept}
use Rattle.acpitool_program.proofs.show.show_stated.Goals as goal

pub show_tables-requires : goal.show_tables-requires
show_tables-requires g c =
    let P : List Kept → Type 0 = λ tables. All IsOfKind (map kept_by tables) in
    subst P (sym c.deref-3.ensures.value) (kinds_of_kept (rw c.new-tables.ensures.items at c.in_ok-gathered.ensures))

pub returns : goal.returns
returns g c = λ numbers. λ is.
    gathered_and_shown c.args.style (map (λ word. string_bytes word) c.args.files.now) numbers c.args.arities.now _ (map kept_by c.visit_words.new.kept.items)
    _ _ _ _ _ _ _ _ _ is
    (rw c.new-tables.ensures.items at c.in_ok-gathered.ensures)
    (rw c.deref.ensures.value at c.in_ok-further.ensures)
    (rw (c.deref-2.ensures.value, c.deref-3.ensures.value) at c.in_ok-shown.ensures)
    c.worst_of.ensures
