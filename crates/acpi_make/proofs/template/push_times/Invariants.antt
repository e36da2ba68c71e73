use Rattle.std.proofs.Common.{◌≡◌, ◌++◌, string_bytes}
use Rattle.acpi_make.specs.Template.{times}
use Rattle.acpi_make.proofs.template.push_times.Given as goal

abbrev pub invariant-times : goal.invariant-times
invariant-times l = string_bytes l.text ++ times l.left l.one ≡ string_bytes l.initial.text ++ times l.count l.one

abbrev pub decreases-times : goal.decreases-times
decreases-times l = l.left
