use Rattle.std.proofs.Common.{sym, ◌∙◌}
use Rattle.acpi_read.proofs.Cuts.{faults_further}
use Rattle.acpi_read.proofs.table.Table.structures.Goals as goal

pub returns-in-Some-further_walk_of-clause-err : goal.returns-in-Some-further_walk_of-clause-err
returns-in-Some-further_walk_of-clause-err c =
    faults_further c.followed.result _ _ _ _ c.signature_number-signature.ensures (sym c.full_walk_of.ensures.walk ∙ c.in_default.is) (sym c.further_walk_of.ensures.walk ∙ c.in-Some-further_walk_of.is)
    c.bytes-in-Some-further_walk_of.ensures.bytes c.followed.ensures.err
