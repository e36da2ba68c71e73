use Rattle.std.proofs.Common.{◌∙◌, ◌+◌, ◌-◌, sym, ap, arith}
use Rattle.acpi_base.proofs.Puts.{put_mid-put}
use Rattle.acpi_c_calls.specs.Add.{fresh}
use Rattle.acpi_c_calls.proofs.Placed.{length_fresh, length_span}
use Rattle.acpi_c_calls.proofs.add.begin_at.Goals as goal

pub returns : goal.returns
returns c =
    put_mid-put _ _ _ _ _
    (c.begin_piece.ensures ∙ ap (fresh c.args.walk.now c.args.kind) (length_span c.args.start (c.args.start + c.args.size - c.args.start) c.args.bytes.now (omega (arith, c.requires)) ∙ omega arith))
    (omega arith ∙ sym (length_fresh c.args.walk.now c.args.kind c.args.size))
