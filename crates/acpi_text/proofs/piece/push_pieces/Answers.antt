use Rattle.std.proofs.Common.{sym, ◌∙◌, arith}
use Rattle.acpi_text.specs.Size.{front_size}
use Rattle.acpi_text.specs.Structure.{all_forms, piece_text}
use Rattle.acpi_text.proofs.Pieces.{front_within, piece_goes_on}
use Rattle.acpi_text.proofs.piece.push_pieces.Goals as goal

pub pieces-preserved : goal.pieces-preserved
pieces-preserved c =
    let within = front_within c.args.sizes c.in-Some.size c.pieces.rest.now (sym c.front_size.ensures ∙ c.in-Some.is) in
    record {
      fits = omega (arith, c.pieces.invariant.fits, within.fits, c.split_at.ensures.back_len);
      parts = piece_goes_on (front_size c.args.sizes) (front_within c.args.sizes) (piece_text c.args.kind (all_forms c.args.table.now)) c.pieces.at c.in-Some.size c.front_size.result c.pieces.rest.now _ _ _ _ _ c.front_size.ensures c.in-Some.is c.split_at.ensures.front c.split_at.ensures.back c.pieces.invariant.parts c.in_ok-push_piece.ensures;
    }

pub split_at-requires : goal.split_at-requires
split_at-requires c = (front_within c.args.sizes c.in-Some.size c.pieces.rest.now (sym c.front_size.ensures ∙ c.in-Some.is)).fits

pub pieces-smaller : goal.pieces-smaller
pieces-smaller c =
    let within = front_within c.args.sizes c.in-Some.size c.pieces.rest.now (sym c.front_size.ensures ∙ c.in-Some.is) in
    omega (arith, within.some, within.fits, c.split_at.ensures.back_len)
