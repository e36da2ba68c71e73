use Rattle.std.proofs.Common.{◌≡◌, drop}
use Rattle.acpi_make.specs.Heading.{is_field}
use Rattle.acpi_make.proofs.heading.is_field.Given as goal

abbrev pub invariant-characters : goal.invariant-characters
invariant-characters l = is_field (drop l.character-index l.heading) ≡ is_field l.heading
