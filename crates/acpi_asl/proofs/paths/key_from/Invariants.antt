use Rattle.std.proofs.Common.{◌≡◌, drop}
use Rattle.acpi_asl.specs.Paths.{key_from}
use Rattle.acpi_asl.proofs.paths.key_from.Given as goal

abbrev pub invariant-bytes : goal.invariant-bytes
invariant-bytes l = key_from l.key (drop l.byte-index l.path) ≡ key_from l.fn.key l.path
