use Rattle.std.proofs.Common.{◌-◌, ◌≤◌, map}
use Rattle.acpi_rules.specs.Field.{seen, times, rows_wanted, Reached}
use Rattle.acpi_rules.proofs.part.push_entries.Given as goal

abbrev pub invariant-entries : goal.invariant-entries
invariant-entries l = record {
  few : l.done ≤ l.count;
  found : Reached (times l.done (rows_wanted l.rows)) l.at l.bytes (map seen l.initial.fields.items) (map seen l.fields.items)
      l.read;
}

abbrev pub decreases-entries : goal.decreases-entries
decreases-entries l = l.count - l.done
