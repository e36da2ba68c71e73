use Rattle.std.proofs.Common.{◌≡◌, drop}
use Rattle.acpi_tree.specs.Tree.{has_full}
use Rattle.acpi_tree.proofs.tree.has_full.Given as goal

abbrev pub invariant-lines : goal.invariant-lines
invariant-lines l = has_full (drop l.line-index l.lines) l.index ≡ has_full l.lines l.index
