use Rattle.std.proofs.Common.{◌≡◌, ◌∷◌, [], ap, ◌∙◌, sym, take, get_or, codes, arith}
use Rattle.acpi_base.specs.Bytes.{field_at}
use Rattle.acpi_layout.specs.Addresses.{memory_of}
use Rattle.acpi_layout.specs.Fault.{IsControlFault, facs_is_outside, facs_has_other_signature, facs_has_other_length}
use Rattle.acpi_layout.proofs.Faults.{at_fault, four_are}
use Rattle.acpi_layout.proofs.found.control_at.Goals as goal

pub returns-in_err-whole-clause-fault : goal.returns-in_err-whole-clause-fault
returns-in_err-whole-clause-fault c =
    at_fault _ (IsControlFault (memory_of c.args.ranges.now) c.args.address) _ _ c.from_residual.ensures.1 c.in_err-whole.ensures.fault (facs_is_outside c.in_err-whole.ensures.err)

pub returns-then-ne-clause-fault : goal.returns-then-ne-clause-fault
returns-then-ne-clause-fault c =
    facs_has_other_signature (λ is.
    let b = c.in_ok-whole.whole.now in
    let same : get_or b 0 0 ∷ get_or b 1 0 ∷ get_or b 2 0 ∷ get_or b 3 0 ∷ [] ≡ codes "FACS" = sym (four_are b (omega (arith, c.in_ok-whole.ensures.size))) ∙ ap (take 4) c.in_ok-whole.ensures.ok ∙ is in
    let a0 : get_or b 0 0 ≡ 70 = cc in
    let a1 : get_or b 1 0 ≡ 65 = cc in
    let a2 : get_or b 2 0 ≡ 67 = cc in
    let a3 : get_or b 3 0 ≡ 83 = cc in
    let equal = rw (a0, a1, a2, a3) at c.ne.ensures in
    absurd (cc (c.if-ne.true, equal)))

pub returns-then-dword_at-ne64-clause-fault : goal.returns-then-dword_at-ne64-clause-fault
returns-then-dword_at-ne64-clause-fault c =
    facs_has_other_length (λ is. c.if-dword_at-ne64.true (c.dword_at.ensures ∙ ap (field_at 4 4) c.in_ok-whole.ensures.ok ∙ is))
