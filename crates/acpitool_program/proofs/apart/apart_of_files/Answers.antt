use Rattle.acpitool_program.proofs.Aparts.{found_apart}
use Rattle.acpitool_program.proofs.apart.apart_of_files.Goals as goal

pub returns-in_ok-sound_apart-in-Ok : goal.returns-in_ok-sound_apart-in-Ok
returns-in_ok-sound_apart-in-Ok g c =
    found_apart c.args.folder.now c.args.file.now c.args.base c.args.rsdp _ _ c.in-Ok.image _ _ _ c.in-Ok.ensures.ok
    c.in_ok-sound_apart-in-Ok.ensures
