use Rattle.std.proofs.Common.{◌++◌, List, ℕ, map, ap, ◌∙◌, string_bytes}
use Rattle.acpi_read.specs.declared.pieces.Piece.{Piece}
use Rattle.acpi_read.specs.Pieces.{kind_of, offsets_of}
use Rattle.acpi_read.specs.Report.{piece_lines}
use Rattle.acpi_read.proofs.report.report_table.Goals as goal

pub returns-clause-ok : goal.returns-clause-ok
returns-clause-ok c =
    let table = c.args.table.now in
    let pieces = map (λ p. p.bytes.now) c.in_ok-pieces.pieces.items in
    let header = string_bytes c.in_ok-text.text in
    let kind = c.kind_of.result in
    record {
      pieces = pieces;
      walk = c.in_ok-pieces.ensures.walk;
      is =
          c.in_ok-push_pieces.ensures
          ∙ ap (λ (ps : List Piece). header ++ piece_lines kind (map (λ p. p.offset) ps) (map (λ p. p.bytes.now) ps)) c.deref.ensures.value
          ∙ ap (λ (offsets : List ℕ). header ++ piece_lines kind offsets pieces) c.in_ok-pieces.ensures.offsets
          ∙ ap (λ k. header ++ piece_lines k (offsets_of table pieces) pieces) c.kind_of.ensures.kind
          ∙ ap (λ (h : List ℕ). h ++ piece_lines (kind_of table) (offsets_of table pieces) pieces) c.in_ok-text.ensures.ok;
    }
