use Rattle.std.proofs.Common.{◌∙◌, ◌-◌, take, drop, sym, arith}
use Rattle.acpi_base.proofs.Puts.{put_mid-put}
use Rattle.acpi_c_calls.proofs.Placed.{length_placed, length_span}
use Rattle.acpi_c_calls.proofs.add.place_within.Goals as goal

pub returns : goal.returns
returns c =
    let n = c.args.to - c.args.from in
    let piece = take n (drop c.args.from c.args.bytes.now) in
    put_mid-put _ _ _ _ _ c.place_number.ensures
    (sym (length_placed c.args.place c.args.number piece ∙ length_span c.args.from n c.args.bytes.now (omega (arith, c.requires.order, c.requires.within))))
