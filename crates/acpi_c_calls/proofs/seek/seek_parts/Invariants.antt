use Rattle.std.proofs.Common.{◌≡◌, ◌≤◌, drop}
use Rattle.acpi_c_calls.specs.Seek.{seek_parts}
use Rattle.acpi_c_calls.proofs.seek.seek_parts.Given as goal

abbrev pub invariant-parts : goal.invariant-parts
invariant-parts l =
    (seek_parts l.name l.limit l.whole l.next (drop l.part-index l.parts) ≡ seek_parts l.name l.limit l.whole 0 l.parts)
    × (l.next ≤ l.limit)
