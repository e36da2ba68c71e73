use Rattle.std.proofs.Common.{◌≡◌, ◌++◌, length, string_bytes}
use Rattle.std.specs.Str.{IsAscii}
use Rattle.acpi_read.specs.Lines.{dotted_segments}
use Rattle.acpi_read.proofs.report.words.push_segments.Given as goal

abbrev pub invariant-loop-rest : goal.invariant-loop-rest
invariant-loop-rest l = (string_bytes l.text ++ dotted_segments l.rest ≡ string_bytes l.initial.text ++ dotted_segments l.segments) × IsAscii l.rest

abbrev pub decreases-loop-rest : goal.decreases-loop-rest
decreases-loop-rest l = length l.rest
