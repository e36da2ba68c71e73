use Rattle.std.proofs.Common.{inl, inr}
use Rattle.acpitool_program.proofs.Archives.{archived_then}
use Rattle.acpitool_program.proofs.Streams.{keeps_self}
use Rattle.acpitool_program.proofs.archiving.archive_files.Goals as goal

pub returns-in_ok-write_archive-in-Ok-clause-archives : goal.returns-in_ok-write_archive-in-Ok-clause-archives
returns-in_ok-write_archive-in-Ok-clause-archives g c =
    archived_then _ _ c.args.file.now _ _ _ _ _ _ (rw c.in-Ok.is at c.in_ok-tables.ensures)
    (rw c.deref.ensures.value at c.in_ok-write_archive-in-Ok.ensures)

pub returns-in-Err-clause-archives : goal.returns-in-Err-clause-archives
returns-in-Err-clause-archives g c = inr (inl (rw c.in-Err.is at c.in_ok-tables.ensures, keeps_self _))
