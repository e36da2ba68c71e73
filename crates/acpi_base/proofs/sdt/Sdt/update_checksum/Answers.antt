use Rattle.std.proofs.Common.{◌∙◌}
use Rattle.acpi_base.proofs.Tables.{checksum_set}
use Rattle.acpi_base.proofs.sdt.Sdt.update_checksum.Goals as goal

pub invariant_of-self : goal.invariant_of-self
invariant_of-self c = rw (checksum_set c.self.inside.bytes.items _ _ c.self.invariant c.checksum.ensures) c.self.invariant

pub returns-clause-bytes : goal.returns-clause-bytes
returns-clause-bytes c = rw (← c.self.view_is) (checksum_set c.self.inside.bytes.items _ _ c.self.invariant c.checksum.ensures ∙ c.self.invariant.sealed)

pub returns-clause-same : goal.returns-clause-same
returns-clause-same c = rw (← c.self.view_is) (checksum_set c.self.inside.bytes.items _ _ c.self.invariant c.checksum.ensures)
