use Rattle.std.proofs.Common.{◌≡◌, ◌++◌, ◌+◌, ◌*◌, ◌/◌, string_bytes}
use Rattle.acpi_read.specs.Lines.{indent}
use Rattle.acpi_read.proofs.report.words.push_indent.Given as goal

abbrev pub invariant-many : goal.invariant-many
invariant-many l = string_bytes l.text ≡ string_bytes l.initial.text ++ indent (16 * l._sixteen)

abbrev pub invariant-one : goal.invariant-one
invariant-one l = string_bytes l.text ≡ string_bytes l.fn.text ++ indent (16 * (l.depth / 16) + l._done)
