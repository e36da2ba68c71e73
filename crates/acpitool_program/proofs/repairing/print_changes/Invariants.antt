use Rattle.std.proofs.Common.{◌≡◌, ◌++◌, ℕ, List, drop}
use Rattle.std.specs.Io.KnownBytes.{Appends}
use Rattle.acpitool_program.specs.Repairing.{changes}
use Rattle.acpitool_program.proofs.repairing.print_changes.Given as goal

-- what was written, and the lines of the fields that are left
abbrev pub invariant-seals : goal.invariant-seals
invariant-seals g l =
    (done : List ℕ)
    × Appends (g.E.Write.contents l.initial.err) (g.E.Write.contents l.err) done
    × (done ++ changes l.name l.old l.new (drop l.seal-index l.seals) ≡ changes l.name l.old l.new l.seals)
