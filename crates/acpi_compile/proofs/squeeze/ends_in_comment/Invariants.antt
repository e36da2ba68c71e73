use Rattle.std.proofs.Common.{◌≡◌, drop}
use Rattle.acpi_compile.specs.Squeeze.{state_after}
use Rattle.acpi_compile.specs.declared.squeeze.Last.TheVariants.{Mark}
use Rattle.acpi_compile.specs.declared.squeeze.State.TheVariants.{Code}
use Rattle.acpi_compile.proofs.squeeze.ends_in_comment.Given as goal

abbrev pub invariant-characters : goal.invariant-characters
invariant-characters l = state_after l.state (drop l.c-index l.unmarked) ≡ state_after (Code Mark) l.unmarked
