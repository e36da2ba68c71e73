use Rattle.std.proofs.Common.{◌≡◌, drop}
use Rattle.acpi_term.specs.Arity.{is_stated}
use Rattle.acpi_term.proofs.name_string.is_stated.Given as goal

abbrev pub invariant-loop-stated : goal.invariant-loop-stated
invariant-loop-stated l = is_stated (drop l.stated-index l.counts) l.name ≡ is_stated l.counts l.name
