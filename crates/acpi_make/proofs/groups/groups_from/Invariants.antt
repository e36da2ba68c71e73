use Rattle.std.proofs.Common.{◌≡◌, drop}
use Rattle.acpi_make.specs.Groups.{no_digits, groups_from}
use Rattle.acpi_make.proofs.groups.groups_from.Given as goal

abbrev pub invariant-characters : goal.invariant-characters
invariant-characters l =
    groups_from (record { digits = l.scan.digits; count = l.scan.count; largest = l.scan.largest; any = l.scan.any })
    (drop l.character-index l.characters) ≡ groups_from no_digits l.characters
