use Rattle.std.proofs.Common.{◌≡◌, ◌++◌, string_bytes}
use Rattle.acpi_asl.specs.Place.{spaces}
use Rattle.acpi_asl.proofs.place.push_spaces.Given as goal

abbrev pub invariant-levels : goal.invariant-levels
invariant-levels l = string_bytes l.text ≡ string_bytes l.initial.text ++ spaces l._level
