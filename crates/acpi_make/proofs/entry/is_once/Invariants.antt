use Rattle.std.proofs.Common.{◌≡◌, drop}
use Rattle.acpi_make.specs.Entry.{is_once}
use Rattle.acpi_make.proofs.entry.is_once.Given as goal

abbrev pub invariant-parts : goal.invariant-parts
invariant-parts l = is_once l.next l.number l.line (drop l.part-index l.parts) ≡ is_once 0 l.number l.line l.parts
