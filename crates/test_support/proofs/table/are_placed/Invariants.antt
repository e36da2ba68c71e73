use Rattle.std.proofs.Common.{◌≡◌, drop, map}
use Rattle.acpi_base.specs.Walk.{offsets_from}
use Rattle.test_support.proofs.table.are_placed.Given as goal

abbrev pub invariant-loop-piece : goal.invariant-loop-piece
invariant-loop-piece l =
    offsets_from l.at (map (λ piece. piece.bytes.now) (drop l.piece-index l.pieces)) ≡ map (λ piece. piece.offset) (drop l.piece-index l.pieces)
    → offsets_from l.start (map (λ piece. piece.bytes.now) l.pieces) ≡ map (λ piece. piece.offset) l.pieces
