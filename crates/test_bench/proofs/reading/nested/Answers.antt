use Rattle.std.proofs.Common.{◌≡◌, suc, ◌+◌, ap, ◌∙◌, arith}
use Rattle.acpi_term.specs.View.{views}
use Rattle.test_bench.specs.Nesting.{numbers}
use Rattle.test_bench.proofs.Nestings.{one_more}
use Rattle.test_bench.proofs.reading.nested.Goals as goal

pub fill-preserved : goal.fill-preserved
fill-preserved c =
    let next : suc c.fill._filled ≡ c.fill._filled + 1 = omega arith in
    ap views c.in_ok-push.ensures.items ∙ one_more c.fill.terms.items c.fill._filled _ c.zero.ensures c.fill.invariant ∙ ap numbers next
