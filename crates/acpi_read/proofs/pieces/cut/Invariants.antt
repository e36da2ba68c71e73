use Rattle.std.proofs.Common.{◌-◌, length, map}
use Rattle.acpi_read.proofs.Cuts.{IsCutSoFar}
use Rattle.acpi_read.proofs.pieces.cut.Given as goal

abbrev pub invariant-loop-at : goal.invariant-loop-at
invariant-loop-at l = IsCutSoFar l.sizes l.start l.at l.bytes (map (λ p. p.bytes.now) l.pieces.items) (map (λ p. p.offset) l.pieces.items)

abbrev pub decreases-loop-at : goal.decreases-loop-at
decreases-loop-at l = length l.bytes - l.at
