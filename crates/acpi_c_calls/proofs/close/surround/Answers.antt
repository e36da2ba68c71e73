use Rattle.std.proofs.Common.{ap, ◌∙◌}
use Rattle.acpi_base.specs.Bytes.{put}
use Rattle.acpi_c_calls.proofs.Closings.{surrounded}
use Rattle.acpi_c_calls.proofs.close.surround.Goals as goal

pub returns : goal.returns
returns c =
    let a = c.args in
    c.write_at-3.ensures
    ∙ ap (put a.at a.first.now) (c.write_at-2.ensures ∙ ap (put _ a.second.now) (c.write_at.ensures ∙ ap (put _ a.last.now) c.copy_within.ensures.after))
    ∙ surrounded a.bytes.now a.first.now a.second.now a.last.now a.at a.end c.requires.order c.requires.room
