use Rattle.acpitool_program.proofs.Outcomes.{as_these, image_tables, one_imageless}
use Rattle.acpitool_program.proofs.outcome.visit_image.Goals as goal

pub returns-in_ok-visit_found-in-Ok : goal.returns-in_ok-visit_found-in-Ok
returns-in_ok-visit_found-in-Ok g c =
    as_these (image_tables c.args.image.now.file.now c.args.image.now.base c.args.bytes.now c.in-Ok.tables.items c.in-Ok.ensures.ok)
    (rw c.deref.ensures.value at c.in_ok-visit_found-in-Ok.ensures)

pub returns-in_ok-tell_no_image-in-Err : goal.returns-in_ok-tell_no_image-in-Err
returns-in_ok-tell_no_image-in-Err g c =
    let said = c.in_ok-tell_no_image-in-Err.ensures in
    one_imageless _ _ _ _ _ _ _ c.args.bytes.now c.in-Err.fault _ c.in-Err.ensures.err said.line said.is
