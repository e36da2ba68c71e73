use Rattle.std.proofs.Common.{◌≡◌, ◌++◌, drop}
use Rattle.acpi_text.specs.Comment.{comment, commented}
use Rattle.acpitool_program.proofs.shown.commented.Given as goal

abbrev pub invariant-bytes : goal.invariant-bytes
invariant-bytes l =
    l.text.items ++ commented l.begins (drop l.byte-index l.lines) ≡ comment l.lines
