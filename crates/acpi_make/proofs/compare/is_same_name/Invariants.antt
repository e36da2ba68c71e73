use Rattle.std.proofs.Common.{◌≡◌, length}
use Rattle.acpi_make.specs.Compare.{is_same_name}
use Rattle.acpi_make.proofs.compare.is_same_name.Given as goal

abbrev pub invariant-characters : goal.invariant-characters
invariant-characters l = is_same_name l.name_left l.other_left ≡ is_same_name l.name l.other

abbrev pub decreases-characters : goal.decreases-characters
decreases-characters l = length l.name_left
