use Rattle.std.proofs.Common.{take, map, string_bytes}
use Rattle.acpitool_program.specs.Job.{asked}
use Rattle.acpitool_program.specs.Machine.{kept_by}
use Rattle.acpitool_program.specs.Outcome.{AreOfFile, AreOfEach, KeptAs}
use Rattle.acpitool_program.proofs.visit.visit_files.Given as goal

abbrev pub invariant-loop-path : goal.invariant-loop-path
invariant-loop-path g l =
    KeptAs (asked l.job) (AreOfEach AreOfFile (map (λ word. string_bytes word) (take l.path-index l.paths)))
    (g.O.Write.contents l.initial.out) (g.O.Write.contents l.out) (g.E.Write.contents l.initial.err) (g.E.Write.contents l.err)
    (map kept_by l.initial.kept.items) (map kept_by l.kept.items) l.worst
