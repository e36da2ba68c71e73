use Rattle.acpitool_program.proofs.Outcomes.{as_these, image_bytes, image_unread, one_unread}
use Rattle.acpitool_program.proofs.visit.visit_placed.Goals as goal

pub returns-in_ok-visit_image-in-Ok : goal.returns-in_ok-visit_image-in-Ok
returns-in_ok-visit_image-in-Ok g c =
    as_these (image_bytes c.args.image.now.file.now c.args.image.now.base c.in-Ok.bytes.items)
    (rw c.deref.ensures.value at c.in_ok-visit_image-in-Ok.ensures)

pub returns-in_ok-tell_unread-in-Err : goal.returns-in_ok-tell_unread-in-Err
returns-in_ok-tell_unread-in-Err g c =
    let line = c.in_ok-tell_unread-in-Err.ensures.line in
    as_these (image_unread c.args.image.now.file.now c.args.image.now.base)
    (one_unread _ _ _ _ _ _ line.0 _ line.1 c.in_ok-tell_unread-in-Err.ensures.is)
