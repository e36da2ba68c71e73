use Rattle.std.proofs.Common.{◌∙◌, inl}
use Rattle.acpitool_program.proofs.Archives.{written_as}
use Rattle.acpitool_program.proofs.archiving.write_archive.Goals as goal

pub returns-in_ok-write_table-in-Ok : goal.returns-in_ok-write_table-in-Ok
returns-in_ok-write_table-in-Ok g c =
    inl (written_as _ _ c.args.file.now _ _ _ _ _ (c.deref.ensures.value ∙ c.in-Ok.ensures.ok) c.in_ok-write_table-in-Ok.ensures)
