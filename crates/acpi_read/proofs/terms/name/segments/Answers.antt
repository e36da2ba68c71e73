use Rattle.std.proofs.lemmas.Result.{err_from_is_err_and}
use Rattle.acpi_read.specs.Cause.{cause_kind}
use Rattle.acpi_read.proofs.Fronts.{segments_begin, segments_go_on, segments_fail, segments_shorter, segments_end}
use Rattle.acpi_read.proofs.terms.name.segments.Goals as goal

pub segments-init : goal.segments-init
segments-init c = segments_begin c.args.count c.args.bytes.now

pub returns-in_err-after : goal.returns-in_err-after
returns-in_err-after c =
    let p = err_from_is_err_and c.from_residual.result c.from_residual.ensures.1 in
    rw (p.1, p.2) (segments_fail (cause_kind c.in_err-after.field-0.0) c.args.count c.segments.counter c.args.bytes.now c.segments.rest.now c.segments-test.true c.segments.invariant c.in_err-after.ensures)

pub segments-preserved : goal.segments-preserved
segments-preserved c = segments_go_on c.args.count c.segments.counter c.args.bytes.now c.segments.rest.now _ c.in_ok-after.after.now c.segments-test.true c.segments.invariant c.in_ok-after.ensures

pub overflow_sub-bytes : goal.overflow_sub-bytes
overflow_sub-bytes c = segments_shorter c.args.count c.segments.counter c.args.bytes.now c.segments.rest.now c.segments.invariant

pub returns : goal.returns
returns c = rw (c.split_at.ensures.front, c.split_at.ensures.back) (segments_end c.args.count c.segments.counter c.args.bytes.now c.segments.rest.now c.segments-test.false c.segments.invariant).is
