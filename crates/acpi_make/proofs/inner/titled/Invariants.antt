use Rattle.std.proofs.Common.{◌≡◌, drop}
use Rattle.acpi_make.specs.Inner.{titled}
use Rattle.acpi_make.proofs.inner.titled.Given as goal

abbrev pub invariant-lists : goal.invariant-lists
invariant-lists l = titled l.line (drop l.list-index l.lists) ≡ titled l.line l.lists
