use Rattle.std.proofs.Common.{◌≡◌, ◌+◌, drop}
use Rattle.acpi_make.specs.Groups.{value_size}
use Rattle.acpi_make.proofs.groups.value_size.Given as goal

abbrev pub invariant-characters : goal.invariant-characters
invariant-characters l = record {
  count : l.size ≡ l.character-index;
  all : l.size + value_size (drop l.character-index l.value) ≡ value_size l.value;
}
