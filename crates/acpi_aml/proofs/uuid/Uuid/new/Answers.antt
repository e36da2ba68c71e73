use Rattle.std.proofs.Common.{sym, ◌∙◌, rules}
use Rattle.acpi_aml.proofs.Uuids.{uuid_are_bytes}
use Rattle.acpi_aml.proofs.uuid.Uuid.new.Goals as goal

pub invariant_of-result : goal.invariant_of-result
invariant_of-result c = record { size = search rules; are = uuid_are_bytes c.as_bytes.result.now c.in-Some.bytes (sym c.read_groups.ensures ∙ c.in-Some.is) }

pub returns-in-Some-clause-uuid : goal.returns-in-Some-clause-uuid
returns-in-Some-clause-uuid c = record { size = search rules; are = uuid_are_bytes c.as_bytes.result.now c.in-Some.bytes (sym c.read_groups.ensures ∙ c.in-Some.is) }
