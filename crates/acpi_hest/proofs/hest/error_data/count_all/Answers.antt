use Rattle.std.proofs.Common.{ℕ, ◌<◌, subst, sym, ◌∙◌}
use Rattle.std.proofs.lemmas.Result.{err_from_is_err_and}
use Rattle.acpi_hest.proofs.Counters.{counted_from_zero, own_refusal}
use Rattle.acpi_hest.proofs.hest.error_data.count_all.Goals as goal

pub returns-clause-count : goal.returns-clause-count
returns-clause-count g c =
    let zero = c.default-counter.ensures in
    c.count.ensures ∙ counted_from_zero _ _ _ c.in_ok-write_into_counter.ensures.ok (sym zero.1 ∙ zero.2)
    (subst (λ (n : ℕ). n < 18446744073709551616) c.count.ensures c.count.type_inv)

pub returns-in_err-write_into_counter-clause-err : goal.returns-in_err-write_into_counter-clause-err
returns-in_err-write_into_counter-clause-err g c =
    let p = err_from_is_err_and c.from_residual.result c.from_residual.ensures.1 in
    rw (p.1, p.2) (own_refusal _ _ _ _ c.in_err-write_into_counter.ensures.err)
