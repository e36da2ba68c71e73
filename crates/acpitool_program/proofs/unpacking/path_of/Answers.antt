use Rattle.std.proofs.Common.{map}
use Rattle.acpitool_program.proofs.Paths.{path_is}
use Rattle.acpitool_program.proofs.unpacking.path_of.Goals as goal

pub returns : goal.returns
returns c =
    path_is c.args.folder.now c.args.table.now _ _ _ _ _ (map (λ table. table.now) c.args.earlier.now) c.in_ok-text.ensures.ok
    c.in_ok-push_str.ensures.bytes (rw c.stem-letters.ensures at c.in_ok-push_shown.ensures)
    (rw (c.count.ensures, c.stem-letters.ensures) at c.in_ok-push_count.ensures) c.in_ok-push_str-2.ensures.bytes
