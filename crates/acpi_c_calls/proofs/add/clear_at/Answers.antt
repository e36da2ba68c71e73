use Rattle.std.proofs.Common.{◌∙◌, ◌+◌, ◌-◌, sym, ap, arith}
use Rattle.acpi_base.specs.Bytes.{zeros}
use Rattle.acpi_base.proofs.Puts.{put_mid-put}
use Rattle.acpi_c_calls.proofs.Placed.{length_zeros, length_span}
use Rattle.acpi_c_calls.proofs.add.clear_at.Goals as goal

pub returns : goal.returns
returns c =
    put_mid-put _ _ _ _ _
    (c.clear.ensures ∙ ap zeros (length_span c.args.start (c.args.start + c.args.count - c.args.start) c.args.bytes.now (omega (arith, c.requires)) ∙ omega arith))
    (omega arith ∙ sym (length_zeros c.args.count))
