use Rattle.std.proofs.Common.{arith}
use Rattle.acpi_base.proofs.Puts.{put_mid-put}
use Rattle.acpi_base.proofs.patch.write_at.Goals as goal

pub returns : goal.returns
returns c = put_mid-put _ _ _ _ _ c.copy_from_slice.ensures.after (omega arith)
