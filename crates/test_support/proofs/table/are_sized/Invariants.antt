use Rattle.std.proofs.Common.{◌≡◌, All, length, take}
use Rattle.test_support.proofs.table.are_sized.Given as goal

abbrev pub invariant-loop-piece : goal.invariant-loop-piece
invariant-loop-piece l = All (λ piece. length piece.bytes.now ≡ l.size) (take l.piece-index l.pieces)
