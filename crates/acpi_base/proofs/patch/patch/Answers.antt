use Rattle.std.proofs.Common.{◌≡◌, ◌+◌, ◌-◌, ◌∙◌, ap, arith, length, take, drop}
use Rattle.std.specs.Prelude.{sum}
use Rattle.acpi_base.proofs.Puts.{sum_step, sum-put}
use Rattle.acpi_base.specs.Bytes.{put}
use Rattle.acpi_base.proofs.patch.patch.Goals as goal

pub returns-clause-sum : goal.returns-clause-sum
returns-clause-sum c =
    let at = c.args.offset in let over = c.args.with.now in let old = c.args.bytes.now in
    let width : at + length over - at ≡ length over = omega arith in
    sum_step _ _ _ (sum (take (at + length over - at) (drop at old))) (sum over) _ _ c.take.ensures.value c.add.ensures.value
    (ap (λ b. sum b + sum (take (at + length over - at) (drop at old))) c.write_at.ensures ∙
    ap (λ n. sum (put at over old) + sum (take n (drop at old))) width ∙ sum-put at over old c.requires)
