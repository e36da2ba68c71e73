use Rattle.std.proofs.Common.{◌+◌, ◌∷◌, length, arith}
use Rattle.std.proofs.lemmas.Result.{err_from_is_err_and}
use Rattle.acpi_base.specs.Bytes.{AreBytes}
use Rattle.acpi_base.proofs.Bytes.{bytes_each}
use Rattle.acpi_term.specs.Reading.{name_string_at}
use Rattle.acpi_read.specs.Cause.{cause_kind}
use Rattle.acpi_read.proofs.Fronts.{CutAt, upwards_cut, upwards_fail}
use Rattle.acpi_read.proofs.terms.name.upwards.Goals as goal

pub returns-in_err-text : goal.returns-in_err-text
returns-in_err-text c =
    let p = err_from_is_err_and c.from_residual.result c.from_residual.ensures.1 in
    rw (p.1, p.2, c.after_up.ensures) (upwards_fail (cause_kind c.in_err-text.field-0.0) c.after_up.result.now c.in_err-text.ensures)

pub split_at-requires : goal.split_at-requires
split_at-requires c =
    let fits : AreBytes (94 ∷ c.after_up.result.now) = rw c.after_up.ensures at (bytes_each c.args.bytes.now (λ i. omega (arith, c.type_inv.bytes i))) in
    let f = upwards_cut c.after_up.result.now c.in_ok-text.text.now c.in_ok-text.field-0-1.now fits.1 c.in_ok-text.ensures in
    rw c.after_up.ensures f.within

pub returns : goal.returns
returns c =
    let fits : AreBytes (94 ∷ c.after_up.result.now) = rw c.after_up.ensures at (bytes_each c.args.bytes.now (λ i. omega (arith, c.type_inv.bytes i))) in
    let f = upwards_cut c.after_up.result.now c.in_ok-text.text.now c.in_ok-text.field-0-1.now fits.1 c.in_ok-text.ensures in
    let cut : CutAt (1 + length c.in_ok-text.text.now) c.args.bytes.now (name_string_at c.args.bytes.now) = rw c.after_up.ensures f in
    rw (c.split_at.ensures.front, c.split_at.ensures.back) cut.is
