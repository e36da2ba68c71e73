use Rattle.std.proofs.Common.{◌≡◌, ◌+◌, false, length}
use Rattle.acpi_compile.specs.Squeeze.{text_len}
use Rattle.acpi_compile.proofs.squeeze.text_len.Given as goal

abbrev pub invariant-text : goal.invariant-text
invariant-text l = (l.len + text_len l.escaped l.rest ≡ text_len false l.kept) × (l.len + length l.rest ≡ length l.kept)

abbrev pub decreases-text : goal.decreases-text
decreases-text l = length l.rest
