use Rattle.std.proofs.Common.{refl}
use Rattle.std.proofs.Common.{false}
use Rattle.acpi_base.specs.FurtherWalk.{dbg2_walk}
use Rattle.acpi_core.proofs.Calls.{is_after_its_calls}
use Rattle.acpi_arm.specs.Dbg2.{dbg2}
use Rattle.acpi_arm.proofs.Devices.{is_walked}
use Rattle.acpi_arm.proofs.dbg2.dbg2_is_walked.Goals as goal

pub returns-clause-walked : goal.returns-clause-walked
returns-clause-walked c = rw (← c.table.view_is) (is_walked _ c.table.invariant)

pub returns-clause-calls : goal.returns-clause-calls
returns-clause-calls c = rw (← c.table.view_is) (λ oem.
    is_after_its_calls false dbg2_walk (dbg2 oem) _ refl c.table.invariant.is (is_walked _ c.table.invariant))
