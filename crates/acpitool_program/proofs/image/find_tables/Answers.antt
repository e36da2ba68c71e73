use Rattle.acpitool_program.proofs.Pointers.{none_found, why_no_image}
use Rattle.acpitool_program.proofs.image.find_tables.Goals as goal

pub returns-in-Err-clause-err : goal.returns-in-Err-clause-err
returns-in-Err-clause-err c =
    let pointer = c.in-Some.pointer in
    why_no_image pointer.root c.args.base c.args.bytes.now pointer.at _ _ c.in-Some.ensures
    (λ not tables found. none_found pointer.root found.root c.args.base c.args.bytes.now pointer.at found.at c.in-Some.ensures
    (c.in-Err.ensures.err not) tables found.first found.fits found.image) c.why_none.ensures
