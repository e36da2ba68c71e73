use Rattle.std.proofs.Common.{◌≡◌, ◌<◌, ◌∷◌, arith, rules}
use Rattle.acpi_read.proofs.Numbers.{high_bound}
use Rattle.acpi_read.proofs.terms.frame.+number_by_bytes.Goals as goal

pub overflow_mul-result : goal.overflow_mul-result
overflow_mul-result t c = let some = c.if-size-eq0.false in omega (arith, high_bound c.args.size 0 c.in_ok-high.high (omega arith) c.requires (omega arith) c.in_ok-high.ensures.below)

pub overflow_add-result : goal.overflow_add-result
overflow_add-result t c =
    let some = c.if-size-eq0.false in
    let is : c.args.bytes.now ≡ c.in-Some.low.now ∷ c.in-Some.rest.now = search rules in
    let byte : c.in-Some.low.now < 256 = omega (arith, rw is at (c.type_inv.bytes 0)) in
    omega (arith, c.from.ensures, high_bound c.args.size c.in-Some.low.now c.in_ok-high.high (omega arith) c.requires byte c.in_ok-high.ensures.below)

pub returns-clause-below : goal.returns-clause-below
returns-clause-below t c =
    let some = c.if-size-eq0.false in
    let is : c.args.bytes.now ≡ c.in-Some.low.now ∷ c.in-Some.rest.now = search rules in
    let byte : c.in-Some.low.now < 256 = omega (arith, rw is at (c.type_inv.bytes 0)) in
    rw c.from.ensures (high_bound c.args.size c.in-Some.low.now c.in_ok-high.high (omega arith) c.requires byte c.in_ok-high.ensures.below).0
