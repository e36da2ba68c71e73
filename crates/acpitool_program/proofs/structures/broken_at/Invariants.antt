use Rattle.std.proofs.Common.{◌≡◌, ◌+◌, ◌<◌, ◌^◌, length}
use Rattle.acpitool_program.specs.Structures.{broken_at}
use Rattle.acpitool_program.proofs.structures.broken_at.Given as goal

abbrev pub invariant-structures : goal.invariant-structures
invariant-structures l = record {
  fits : l.at + length l.rest < 2 ^ 64;
  goes : broken_at l.left l.sizes l.at l.rest ≡ broken_at (length l.bytes) l.sizes l.start l.bytes;
}

abbrev pub decreases-structures : goal.decreases-structures
decreases-structures l = l.left
