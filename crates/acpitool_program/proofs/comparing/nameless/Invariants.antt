use Rattle.std.proofs.Common.{◌≡◌, ◌++◌, drop, length, map}
use Rattle.acpi_rules.specs.Field.{seen}
use Rattle.acpitool_program.specs.Comparing.{nameless, nameless_in}
use Rattle.acpitool_program.proofs.comparing.nameless.Given as goal

abbrev pub invariant-fields : goal.invariant-fields
invariant-fields l =
    l.bytes.items ++ nameless_in (length l.table) (map seen (drop l.field-index l.fields)) l.rest
    ≡ nameless (map seen l.fields) l.table
