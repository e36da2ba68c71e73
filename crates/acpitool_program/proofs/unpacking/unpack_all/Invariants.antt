use Rattle.acpitool_program.proofs.Unpacked.{SoFar}
use Rattle.acpitool_program.proofs.unpacking.unpack_all.Given as goal

abbrev pub invariant-tables : goal.invariant-tables
invariant-tables g l =
    SoFar (λ table. table.now) l.folder l.tables (g.O.Write.contents l.initial.out) (g.E.Write.contents l.initial.err) l.i
    (g.O.Write.contents l.out) (g.E.Write.contents l.err) l.worst
