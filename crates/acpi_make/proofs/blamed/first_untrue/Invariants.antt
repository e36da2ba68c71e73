use Rattle.std.proofs.Common.{◌≡◌, drop}
use Rattle.acpi_make.specs.Blamed.{first_untrue}
use Rattle.acpi_make.proofs.blamed.first_untrue.Given as goal

abbrev pub invariant-owns : goal.invariant-owns
invariant-owns l = first_untrue l.length_at (drop l.own-index l.owns) l.bytes ≡ first_untrue l.length_at l.owns l.bytes
