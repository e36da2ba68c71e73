use Rattle.std.proofs.Common.{◌≡◌, drop}
use Rattle.acpi_term.specs.Arity.{arity}
use Rattle.acpi_term.proofs.name_string.count_of.Given as goal

abbrev pub invariant-loop-stated : goal.invariant-loop-stated
invariant-loop-stated l = arity (drop l.stated-index l.counts) l.name ≡ arity l.counts l.name
