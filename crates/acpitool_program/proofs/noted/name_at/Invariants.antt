use Rattle.std.proofs.Common.{◌≡◌, map, drop}
use Rattle.acpi_rules.specs.Field.{seen}
use Rattle.acpitool_program.specs.Noted.{name_at}
use Rattle.acpitool_program.proofs.noted.name_at.Given as goal

-- the fields that are left have the name
abbrev pub invariant-fields : goal.invariant-fields
invariant-fields l = name_at l.offset (map seen (drop l.field-index l.fields)) ≡ name_at l.offset (map seen l.fields)
