use Rattle.std.proofs.Common.{◌≡◌, ◌++◌, drop}
use Rattle.acpi_make.specs.Inner.{lists_own}
use Rattle.acpi_make.proofs.inner.push_lists.Given as goal

abbrev pub invariant-lists : goal.invariant-lists
invariant-lists l =
    l.owns.items ++ lists_own l.extent.text.now l.extent.marks.now l.extent.start l.extent.size (drop l.list-index l.lists)
    ≡ l.initial.owns.items ++ lists_own l.extent.text.now l.extent.marks.now l.extent.start l.extent.size l.lists
