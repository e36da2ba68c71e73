use Rattle.std.proofs.Common.{◌≡◌, ◌+◌, length}
use Rattle.acpi_compile.specs.Squeeze.{note_len}
use Rattle.acpi_compile.proofs.squeeze.note_len.Given as goal

abbrev pub invariant-note : goal.invariant-note
invariant-note l = (l.len + note_len l.rest ≡ note_len l.kept) × (l.len + length l.rest ≡ length l.kept)

abbrev pub decreases-note : goal.decreases-note
decreases-note l = length l.rest
