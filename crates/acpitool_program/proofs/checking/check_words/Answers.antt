use Rattle.std.proofs.Common.{map, string_bytes}
use Rattle.acpitool_program.specs.Machine.{kept_by}
use Rattle.acpitool_program.proofs.UnreadBlocks.{checked_and_told}
use Rattle.acpitool_program.proofs.checking.check_words.Goals as goal

pub returns : goal.returns
returns g c =
    checked_and_told c.args.json (map (λ word. string_bytes word) c.args.files.now) (map kept_by c.visit_words.new.kept.items)
    _ _ _ _ _ _ _ _ _ _ _
    (rw c.new-kept.ensures.items at c.in_ok-status.ensures)
    (rw c.deref.ensures.value at c.in_ok-across.ensures)
    (rw c.deref-2.ensures.value at c.in_ok-unread.ensures)
    c.worst_of.ensures c.worst_of-2.ensures
