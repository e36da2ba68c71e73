use Rattle.std.proofs.Common.{[], ◌∷◌, refl, drop}
use Rattle.std.proofs.lemmas.List.{take_rest}
use Rattle.std.proofs.lemmas.Result.{err_from_is_err_and}
use Rattle.std.proofs.lemmas.Slice.{pushed}
use Rattle.acpi_read.specs.Pieces.{refusal_of, IsFront}
use Rattle.acpi_read.proofs.Cuts.{cut_fault, cut_pushed}
use Rattle.acpi_read.proofs.pieces.cut.Goals as goal

pub returns-in_err-size-clause-err : goal.returns-in_err-size-clause-err
returns-in_err-size-clause-err c =
    let p = err_from_is_err_and c.from_residual.result c.from_residual.ensures.1 in
    let bytes = c.args.bytes.now in
    let so = c.loop-at.invariant in
    rw (p.1, p.2)
    (cut_fault (refusal_of c.in_err-size.field-0.0) c.args.sizes c.args.start c.loop-at.at bytes _ c.requires.sizes so.each c.loop-at-test.true so.joined (rw take_rest at c.in_err-size.ensures.err))

pub loop-at-preserved : goal.loop-at-preserved
loop-at-preserved c =
    let bytes = c.args.bytes.now in
    let at = c.loop-at.at in
    let n = c.in_ok-size.size in
    let front : IsFront c.args.sizes n (drop at bytes) = rw take_rest at c.in_ok-size.ensures.ok in
    let p = c.piece_at.result in
    cut_pushed (λ q. q.bytes.now) (λ q. q.offset) c.args.sizes c.args.start at n bytes _ _ p (pushed (p ∷ []) refl c.in_ok-push.was c.push.ensures.items) c.loop-at.invariant front c.piece_at.ensures.bytes c.piece_at.ensures.offset
