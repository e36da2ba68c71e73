use Rattle.std.proofs.Common.{◌≡◌, ◌++◌, length, string_bytes}
use Rattle.acpi_asl.specs.Name.{asl_name}
use Rattle.acpi_asl.proofs.name.push_name_bytes.Given as goal

abbrev pub invariant-parents : goal.invariant-parents
invariant-parents l = string_bytes l.text ++ asl_name l.rest ≡ string_bytes l.initial.text ++ asl_name l.bytes

abbrev pub decreases-parents : goal.decreases-parents
decreases-parents l = length l.rest
