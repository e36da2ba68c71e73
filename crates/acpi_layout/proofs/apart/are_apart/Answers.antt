use Rattle.std.proofs.Common.{arith, sym, subst}
use Rattle.acpi_layout.specs.Fault.{IsOverlap}
use Rattle.acpi_layout.proofs.Faults.{not_true}
use Rattle.acpi_layout.proofs.Middles.{all_apart, not_all_apart, they_overlap}
use Rattle.acpi_layout.proofs.apart.are_apart.Goals as goal

pub returns-then-not-ends_before-clause-err : goal.returns-then-not-ends_before-clause-err
returns-then-not-ends_before-clause-err c = λ other.
    not_all_apart c.args.tables.now c.in_ok-all.all.items c.in_ok-all.ensures c.all.i c.index.result.now c.index-in-all.result.now c.all.auto.i
    (omega (arith, c.all-test.true, c.len-i-end.ensures)) c.index.ensures c.index-in-all.ensures (λ h. not_true _ c.if-not-ends_before.true (c.ends_before.ensures.1 h))

pub returns-then-not-ends_before-clause-fault : goal.returns-then-not-ends_before-clause-fault
returns-then-not-ends_before-clause-fault c = λ other.
    subst (IsOverlap c.args.tables.now) (sym c.overlap.ensures)
    (they_overlap c.args.tables.now c.in_ok-all.all.items c.in_ok-all.ensures c.all.i c.index.result.now c.index-in-all.result.now c.all.auto.i
    (omega (arith, c.all-test.true, c.len-i-end.ensures)) c.index.ensures c.index-in-all.ensures (λ h. not_true _ c.if-not-ends_before.true (c.ends_before.ensures.1 h)))

pub returns-clause-ok : goal.returns-clause-ok
returns-clause-ok c =
    all_apart c.args.tables.now c.in_ok-all.all.items c.in_ok-all.ensures (λ k d inside. c.all.invariant k d (omega (arith, inside, c.all-test.false, c.len-i-end.ensures)))
