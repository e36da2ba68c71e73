use Rattle.test_support.proofs.Found.{read_back}
use Rattle.test_support.proofs.table.bytes_read_back.Goals as goal

pub returns-clause-read : goal.returns-clause-read
returns-clause-read c =
    read_back (λ p. p.bytes.now) (λ p. p.offset) c.in_ok-pieces.pieces.items c.deref.result.now c.in_ok-table.table c.args.bytes.now c.args.structures.now c.args.start c.args.size
    c.deref.ensures.value c.in_ok-table.ensures.value c.in_ok-pieces.ensures.walk c.in_ok-pieces.ensures.offsets
    c.in_ok-are_structures.ensures.sized c.in_ok-are_structures.ensures.placed c.in_ok-are_structures.ensures.joined
