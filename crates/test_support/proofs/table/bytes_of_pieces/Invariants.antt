use Rattle.std.proofs.Common.{◌≡◌, ◌++◌, drop, map}
use Rattle.std.specs.List.{concat}
use Rattle.test_support.proofs.table.bytes_of_pieces.Given as goal

abbrev pub invariant-loop-piece : goal.invariant-loop-piece
invariant-loop-piece l =
    l.bytes.items ++ concat (map (λ piece. piece.bytes.now) (drop l.piece-index l.pieces)) ≡ concat (map (λ piece. piece.bytes.now) l.pieces)
