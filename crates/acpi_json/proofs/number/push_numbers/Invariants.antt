use Rattle.std.proofs.Common.{◌≡◌, ◌++◌, true}
use Rattle.acpi_json.specs.Number.{numbers}
use Rattle.acpi_json.proofs.number.push_numbers.Given as goal

abbrev pub invariant-numbers : goal.invariant-numbers
invariant-numbers l =
    l.text.items ++ numbers l.first l.width l.left l.rest ≡ l.initial.text.items ++ numbers true l.width l.count l.bytes

abbrev pub decreases-numbers : goal.decreases-numbers
decreases-numbers l = l.left
