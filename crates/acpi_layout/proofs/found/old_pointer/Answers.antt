use Rattle.std.proofs.Common.{◌≡◌, ◌≤◌, ◌%◌, ap, ◌∙◌, sym, subst, take, codes, arith}
use Rattle.std.specs.Prelude.{sum}
use Rattle.acpi_base.specs.Bytes.{field_at}
use Rattle.acpi_layout.specs.Addresses.{memory_of}
use Rattle.acpi_layout.specs.Fault.{IsOldPointerFault, old_pointer_is_outside, old_pointer_has_other_signature, old_pointer_has_later_revision, old_pointer_has_wrong_checksum}
use Rattle.acpi_layout.proofs.Faults.{at_fault, byte_is, not_true}
use Rattle.acpi_layout.proofs.found.old_pointer.Goals as goal

pub returns-in_err-whole-clause-fault : goal.returns-in_err-whole-clause-fault
returns-in_err-whole-clause-fault c =
    at_fault _ (IsOldPointerFault (memory_of c.args.ranges.now) c.args.address) _ _ c.from_residual.ensures.1 c.in_err-whole.ensures.fault (old_pointer_is_outside c.in_err-whole.ensures.err)

pub returns-then-ne-clause-fault : goal.returns-then-ne-clause-fault
returns-then-ne-clause-fault c =
    old_pointer_has_other_signature (λ is.
    let same : take 8 c.in_ok-whole.whole.now ≡ codes "RSD PTR " = ap (take 8) c.in_ok-whole.ensures.ok ∙ is in
    let equal = rw same at c.ne.ensures in
    absurd (cc (c.if-ne.true, equal)))

pub returns-then-whole-ge2-clause-fault : goal.returns-then-whole-ge2-clause-fault
returns-then-whole-ge2-clause-fault c =
    old_pointer_has_later_revision (subst (λ n. 2 ≤ n)
    (sym (byte_is c.in_ok-whole.whole.now 15 (omega (arith, c.in_ok-whole.ensures.size))) ∙ ap (field_at 15 1) c.in_ok-whole.ensures.ok) c.if-whole-ge2.true)

pub returns-then-not-sums_to_zero-clause-fault : goal.returns-then-not-sums_to_zero-clause-fault
returns-then-not-sums_to_zero-clause-fault c =
    old_pointer_has_wrong_checksum (λ is.
    not_true c.sums_to_zero.result c.if-not-sums_to_zero.true (c.sums_to_zero.ensures.1 (ap (λ b. sum b % 256) c.in_ok-whole.ensures.ok ∙ is)))
