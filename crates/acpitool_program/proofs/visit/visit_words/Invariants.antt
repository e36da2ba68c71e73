use Rattle.std.proofs.Common.{take, map, string_bytes}
use Rattle.acpitool_program.specs.Job.{asked}
use Rattle.acpitool_program.specs.Machine.{kept_by}
use Rattle.acpitool_program.specs.Outcome.{AreOfWord, AreOfEach, KeptAs}
use Rattle.acpitool_program.proofs.visit.visit_words.Given as goal

abbrev pub invariant-loop-word : goal.invariant-loop-word
invariant-loop-word g l =
    KeptAs (asked l.job) (AreOfEach AreOfWord (map (λ word. string_bytes word) (take l.word-index l.files)))
    (g.O.Write.contents l.initial.out) (g.O.Write.contents l.out) (g.E.Write.contents l.initial.err) (g.E.Write.contents l.err)
    (map kept_by l.initial.kept.items) (map kept_by l.kept.items) l.worst
