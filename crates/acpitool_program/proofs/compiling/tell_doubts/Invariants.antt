use Rattle.std.proofs.Common.{◌≡◌, ◌++◌, ℕ, List, drop}
use Rattle.std.specs.Io.KnownBytes.{Appends}
use Rattle.acpitool_program.specs.Compiling.{doubt_lines}
use Rattle.acpitool_program.proofs.compiling.tell_doubts.Given as goal

-- what was written, and the lines of the doubts that are left
abbrev pub invariant-doubts : goal.invariant-doubts
invariant-doubts g l =
    (done : List ℕ)
    × Appends (g.E.Write.contents l.initial.err) (g.E.Write.contents l.err) done
    × (done ++ doubt_lines l.name l.text (drop l.doubt-index l.doubts) ≡ doubt_lines l.name l.text l.doubts)
