use Rattle.std.proofs.Common.{◌≤◌, ◌^◌, ◌+◌, ◌*◌, get_or, arith}
use Rattle.std.specs.Char.{digit_value}
use Rattle.acpi_dump.proofs.Numbers.{too_large, at_end}
use Rattle.acpi_dump.proofs.digits.number.Goals as goal

pub returns-in_err-checked_mul : goal.returns-in_err-checked_mul
returns-in_err-checked_mul c =
    let digit = get_or c.args.digits.now c.digits.byte-index 0 in
    let past : 2 ^ 64 ≤ c.digits.number * 16 + digit_value digit = omega (arith, c.in_err-checked_mul.ensures) in
    let all = too_large c.digits.number c.args.digits.now c.digits.byte-index _ (2 ^ 64)
    c.digits-test.true c.digits.invariant.so_far past in
    rw c.from_residual.ensures (λ small. omega (arith, all, small))

pub returns : goal.returns
returns c =
    let is = at_end c.digits.number c.args.digits.now c.digits.byte-index _ c.digits-test.false c.digits.invariant.so_far in
    (omega (arith, is, c.digits.invariant.fits), is)
