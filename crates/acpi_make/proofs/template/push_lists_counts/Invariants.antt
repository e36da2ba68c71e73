use Rattle.std.proofs.Common.{◌≡◌, ◌++◌, string_bytes, drop}
use Rattle.acpi_make.specs.Template.{lists_counts_at}
use Rattle.acpi_make.proofs.template.push_lists_counts.Given as goal

abbrev pub invariant-lists : goal.invariant-lists
invariant-lists l =
    l.own.items ++ lists_counts_at (drop l.list-index l.lists) ≡ l.initial.own.items ++ lists_counts_at l.lists
