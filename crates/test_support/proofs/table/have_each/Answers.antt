use Rattle.std.proofs.Common.{ℕ, List, Bor, sym}
use Rattle.std.proofs.lemmas.List.{take_all}
use Rattle.std.proofs.lemmas.List.Elements.{All-more, All-same}
use Rattle.test_support.specs.Expected.{AreAt}
use Rattle.test_support.proofs.table.have_each.Goals as goal

pub loop-offset-preserved : goal.loop-offset-preserved
loop-offset-preserved c =
    All-more (λ (row : ℕ × Bor (List ℕ)). AreAt row.0 row.1.now c.args.bytes.now) c.args.rows.now c.loop-offset.offset-index _
    c.loop-offset-test.true c.loop-offset.invariant c.in_ok-have.ensures

pub returns : goal.returns
returns c =
    All-same (λ (row : ℕ × Bor (List ℕ)). AreAt row.0 row.1.now c.args.bytes.now) c.args.rows.now _
    (sym (take_all c.loop-offset.offset-index c.args.rows.now c.loop-offset-test.false)) c.loop-offset.invariant
