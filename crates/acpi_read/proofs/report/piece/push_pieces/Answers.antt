use Rattle.acpi_read.proofs.Cuts.{all_mapped}
use Rattle.acpi_read.proofs.report.piece.push_pieces.Goals as goal

pub push_piece-requires : goal.push_piece-requires
push_piece-requires c = all_mapped (λ p. p.bytes.now) _ c.args.pieces.now c.loop-piece.piece-index _ c.requires c.loop-piece-test.true
