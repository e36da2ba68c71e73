use Rattle.std.proofs.Common.{List, map, string_bytes}
use Rattle.acpi_read.specs.declared.pieces.Piece.{Piece}
use Rattle.acpi_read.specs.Report.{piece_lines}
use Rattle.acpi_read.proofs.Texts.{Goes}
use Rattle.acpi_read.proofs.report.piece.push_pieces.Given as goal

abbrev pub invariant-loop-piece : goal.invariant-loop-piece
invariant-loop-piece l =
    Goes (λ (pieces : List Piece). piece_lines l.kind (map (λ p. p.offset) pieces) (map (λ p. p.bytes.now) pieces)) l.pieces l.piece-index (string_bytes l.initial.text) (string_bytes l.text)
