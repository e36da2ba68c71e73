use Rattle.std.proofs.Common.{◌≡◌, ◌++◌, length, string_bytes}
use Rattle.acpi_read.specs.Lines.{name_text, IsShown}
use Rattle.acpi_read.proofs.report.words.push_name.Given as goal

abbrev pub invariant-up : goal.invariant-up
invariant-up l = (string_bytes l.text ++ name_text l.rest ≡ string_bytes l.fn.text ++ name_text l.name) × IsShown l.rest

abbrev pub decreases-up : goal.decreases-up
decreases-up l = length l.rest
