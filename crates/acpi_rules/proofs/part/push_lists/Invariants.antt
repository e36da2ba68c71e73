use Rattle.std.proofs.Common.{◌-◌, ◌*◌, ◌≤◌, [], ◌∷◌, map}
use Rattle.acpi_base.specs.Look as looks
use Rattle.acpi_rules.specs.Field.{seen, sized, times, Reached}
use Rattle.acpi_rules.proofs.part.push_lists.Given as goal

abbrev pub invariant-lists : goal.invariant-lists
invariant-lists l = record {
  few : l.done ≤ l.count;
  found : Reached (times l.done (sized l.name looks.number l.width (l.width * l.columns) ∷ [])) l.at l.bytes
      (map seen l.initial.fields.items) (map seen l.fields.items) l.read;
}

abbrev pub decreases-lists : goal.decreases-lists
decreases-lists l = l.count - l.done
