use Rattle.std.proofs.Common.{ap, sym, ◌∙◌}
use Rattle.acpi_base.specs.Bytes.{le, put}
use Rattle.acpi_core.proofs.Patches.{put_nothing}
use Rattle.acpi_core.proofs.count.Count.write.Goals as goal

pub returns-in-0-clause-bytes : goal.returns-in-0-clause-bytes
returns-in-0-clause-bytes c =
    sym (ap (λ w. put c.args.self.now.at (le w c.args.self.now.number) c.args.fixed.now) c.in-0.is
    ∙ put_nothing c.args.self.now.at c.args.fixed.now)
