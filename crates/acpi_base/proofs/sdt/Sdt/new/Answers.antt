use Rattle.std.proofs.Common.{rules, ◌≡◌, ◌∙◌, ap, arith, length}
use Rattle.acpi_base.proofs.Tables.{written_back, sealed_table, headed_is_true}
use Rattle.acpi_base.proofs.sdt.Sdt.new.Goals as goal

pub invariant_of-result : goal.invariant_of-result
invariant_of-result c =
    let size : length c.deref_mut.result.now ≡ c.args.length = ap length c.deref_mut.ensures.value ∙ c.in_ok-bytes.ensures.len in
    rw (written_back _ c.seal-sum.new.bytes c.in_ok-bytes.bytes.items (c.seal-sum.auto.bytes ∙ c.deref_mut.ensures.len))
    (sealed_table _ _ _ c.seal-sum.ensures.bytes (omega (arith, size, c.if-length-lt36.false)) (omega (arith, size, c.ranges.length.fits)) c.seal-sum.ensures.sum)

pub returns-clause-valid : goal.returns-clause-valid
returns-clause-valid c =
    let size : length c.deref_mut.result.now ≡ c.args.length = ap length c.deref_mut.ensures.value ∙ c.in_ok-bytes.ensures.len in
    rw (written_back _ c.seal-sum.new.bytes c.in_ok-bytes.bytes.items (c.seal-sum.auto.bytes ∙ c.deref_mut.ensures.len), c.seal-sum.ensures.bytes)
    (headed_is_true _ c.header.result _ c.args.signature c.args.length c.args.revision _ (c.deref_mut.ensures.value ∙ c.in_ok-bytes.ensures.bytes) c.header.ensures
    size (omega (arith, c.if-length-lt36.false)) (omega (arith, c.ranges.length.fits)) (search rules))
