use Rattle.std.proofs.Common.{◌≡◌, ◌%◌, ap, ◌∙◌, sym, take, codes, arith}
use Rattle.std.specs.Prelude.{sum}
use Rattle.acpi_base.specs.Bytes.{field_at}
use Rattle.acpi_layout.specs.Addresses.{memory_of}
use Rattle.acpi_layout.specs.Fault.{IsPointerFault, pointer_is_outside, pointer_has_other_signature, pointer_has_other_revision, pointer_has_other_length, pointer_has_wrong_checksum, pointer_has_wrong_extended_checksum}
use Rattle.acpi_layout.proofs.Faults.{at_fault, byte_is, not_true}
use Rattle.acpi_layout.proofs.found.pointer.Goals.{then-not-sums_to_zero-via-then-not-sums_to_zero, then-not-sums_to_zero-via-else-not-sums_to_zero+then-not-sums_to_zero-2}
use Rattle.acpi_layout.proofs.found.pointer.Goals as goal

pub returns-in_err-whole-clause-fault : goal.returns-in_err-whole-clause-fault
returns-in_err-whole-clause-fault c =
    at_fault _ (IsPointerFault (memory_of c.args.ranges.now) c.args.address) _ _ c.from_residual.ensures.1 c.in_err-whole.ensures.fault (pointer_is_outside c.in_err-whole.ensures.err)

pub returns-then-ne-clause-fault : goal.returns-then-ne-clause-fault
returns-then-ne-clause-fault c =
    pointer_has_other_signature (λ is.
    let same : take 8 c.in_ok-whole.whole.now ≡ codes "RSD PTR " = ap (take 8) c.in_ok-whole.ensures.ok ∙ is in
    let equal = rw same at c.ne.ensures in
    absurd (cc (c.if-ne.true, equal)))

pub returns-then-whole-ne2-clause-fault : goal.returns-then-whole-ne2-clause-fault
returns-then-whole-ne2-clause-fault c =
    pointer_has_other_revision (λ is.
    c.if-whole-ne2.true (sym (byte_is c.in_ok-whole.whole.now 15 (omega (arith, c.in_ok-whole.ensures.size))) ∙ ap (field_at 15 1) c.in_ok-whole.ensures.ok ∙ is))

pub returns-then-dword_at-ne36-clause-fault : goal.returns-then-dword_at-ne36-clause-fault
returns-then-dword_at-ne36-clause-fault c =
    pointer_has_other_length (λ is. c.if-dword_at-ne36.true (c.dword_at.ensures ∙ ap (field_at 20 4) c.in_ok-whole.ensures.ok ∙ is))

pub returns-then-not-sums_to_zero-clause-fault : goal.returns-then-not-sums_to_zero-clause-fault
returns-then-not-sums_to_zero-clause-fault c =
    elim c.then-not-sums_to_zero.branch [
      | then-not-sums_to_zero-via-then-not-sums_to_zero w ↦
          pointer_has_wrong_checksum (λ is.
          not_true c.sums_to_zero.result w.if-not-sums_to_zero.true (c.sums_to_zero.ensures.1 (ap (λ b. sum (take 20 b) % 256) c.in_ok-whole.ensures.ok ∙ is)))
      | then-not-sums_to_zero-via-else-not-sums_to_zero+then-not-sums_to_zero-2 w ↦
          let second = w.sums_to_zero-else-not-sums_to_zero in
          pointer_has_wrong_extended_checksum (λ is.
          not_true second.result w.if-not-sums_to_zero-2.true (second.ensures.1 (ap (λ b. sum b % 256) c.in_ok-whole.ensures.ok ∙ is)))
    ]
