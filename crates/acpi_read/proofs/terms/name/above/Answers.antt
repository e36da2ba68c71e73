use Rattle.std.proofs.Common.{arith}
use Rattle.acpi_base.proofs.Bytes.{bytes_each}
use Rattle.acpi_read.proofs.Fronts.{above_goes_on, above_ends}
use Rattle.acpi_read.proofs.terms.name.above.Goals as goal

pub above-preserved : goal.above-preserved
above-preserved c = above_goes_on c.args.bytes.now c.above.rest.now _ c.after_up-rest.ensures c.above.invariant

pub split_at-requires : goal.split_at-requires
split_at-requires c =
    let fits = bytes_each c.args.bytes.now (λ i. omega (arith, c.type_inv.bytes i)) in
    (above_ends c.args.bytes.now c.above.rest.now c.in_ok-text.text.now c.in_ok-text.field-0-1.now fits c.above.invariant c.in_ok-text.ensures).within

pub returns : goal.returns
returns c =
    let fits = bytes_each c.args.bytes.now (λ i. omega (arith, c.type_inv.bytes i)) in
    rw (c.split_at.ensures.front, c.split_at.ensures.back) (above_ends c.args.bytes.now c.above.rest.now c.in_ok-text.text.now c.in_ok-text.field-0-1.now fits c.above.invariant c.in_ok-text.ensures).is
