use Rattle.std.proofs.Common.{ap}
use Rattle.acpitool_program.specs.Job.{asked}
use Rattle.acpitool_program.proofs.Outcomes.{gathered_keep, listed_keep}
use Rattle.acpitool_program.proofs.outcome.visit_table.Goals as goal

pub returns-in_ok-gather_table-in-Gathers : goal.returns-in_ok-gather_table-in-Gathers
returns-in_ok-gather_table-in-Gathers g c = gathered_keep (ap asked c.in-Gathers.is) (c.in_ok-gather_table-in-Gathers.ensures _)

pub returns-in_ok-list_table-in-Lists : goal.returns-in_ok-list_table-in-Lists
returns-in_ok-list_table-in-Lists g c = listed_keep _ (ap asked c.in-Lists.is) c.in_ok-list_table-in-Lists.ensures
