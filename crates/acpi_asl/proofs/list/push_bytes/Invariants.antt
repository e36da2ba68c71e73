use Rattle.std.proofs.Common.{◌≡◌, ◌++◌, drop, string_bytes}
use Rattle.std.specs.Prelude.{true}
use Rattle.acpi_asl.specs.Template.{listed_bytes}
use Rattle.acpi_asl.proofs.list.push_bytes.Given as goal

abbrev pub invariant-bytes : goal.invariant-bytes
invariant-bytes l =
    string_bytes l.text ++ listed_bytes l.first (drop l.byte-index l.bytes) ≡ string_bytes l.initial.text ++ listed_bytes true l.bytes
