use Rattle.acpitool_program.proofs.Unpacked.{dump_unpacked}
use Rattle.acpitool_program.proofs.unpacking.unpack_dump.Goals as goal

pub returns-in_ok-unpack_to-in-Ok : goal.returns-in_ok-unpack_to-in-Ok
returns-in_ok-unpack_to-in-Ok g c =
    dump_unpacked c.args.name.now c.args.folder.now c.args.dump.now c.in-Ok.tables.items _ _ _ _ _ _ c.in-Ok.ensures.ok
    (rw c.deref.ensures.value at c.in_ok-all-in-Ok.ensures) (rw c.deref-in-Ok.ensures.value at c.in_ok-unpack_to-in-Ok.ensures)
