use Rattle.std.proofs.Common.{length}
use Rattle.std.specs.Prelude.{string_bytes}
use Rattle.acpi_read.proofs.Strings.{TextRead}
use Rattle.acpi_read.proofs.terms.text.text.Given as goal

abbrev pub invariant-text : goal.invariant-text
invariant-text l = TextRead l.bytes (string_bytes l.text) l.rest

abbrev pub decreases-text : goal.decreases-text
decreases-text l = length l.rest
