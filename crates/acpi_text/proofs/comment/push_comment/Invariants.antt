use Rattle.std.proofs.Common.{◌≡◌, ◌++◌, length, string_bytes}
use denote.Text.{Utf8}
use denote.Shadow.{shadow}
use Rattle.acpi_text.specs.Comment.{comment}
use Rattle.acpi_text.proofs.comment.push_comment.Given as goal

abbrev pub invariant-lines : goal.invariant-lines
invariant-lines l = shadow (Utf8 l.rest)
    × (string_bytes l.text ++ comment l.rest ≡ string_bytes l.initial.text ++ comment l.lines)

abbrev pub decreases-lines : goal.decreases-lines
decreases-lines l = length l.rest
