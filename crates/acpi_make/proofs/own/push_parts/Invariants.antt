use Rattle.std.proofs.Common.{◌≡◌, ◌++◌, drop}
use Rattle.acpi_make.specs.Own.{parts_own}
use Rattle.acpi_make.proofs.own.push_parts.Given as goal

abbrev pub invariant-parts : goal.invariant-parts
invariant-parts l =
    l.owns.items ++ parts_own l.extent.text.now l.extent.marks.now l.extent.total l.extent.start l.extent.size (drop l.i l.parts)
    ≡ l.initial.owns.items ++ parts_own l.extent.text.now l.extent.marks.now l.extent.total l.extent.start l.extent.size l.parts
