use Rattle.std.proofs.Common.{◌≡◌, ◌+◌, ◌<◌, ◌^◌, ◌++◌, length, string_bytes}
use Rattle.acpi_text.specs.Piece.{pieces_text}
use Rattle.acpi_text.specs.Size.{front_size}
use Rattle.acpi_text.specs.Structure.{all_forms, piece_text}
use Rattle.acpi_text.proofs.piece.push_pieces.Given as goal

abbrev pub invariant-pieces : goal.invariant-pieces
invariant-pieces l = record {
  fits : l.at + length l.rest < 2 ^ 64;
  parts : string_bytes l.text ++ pieces_text (front_size l.sizes) (piece_text l.kind (all_forms l.table)) l.at l.rest
      ≡ string_bytes l.initial.text ++ pieces_text (front_size l.sizes) (piece_text l.kind (all_forms l.table)) l.start l.bytes;
}

abbrev pub decreases-pieces : goal.decreases-pieces
decreases-pieces l = length l.rest
