use Rattle.std.proofs.Common.{◌≡◌, map, take}
use Rattle.std.specs.Option.{option_map}
use Rattle.acpi_layout.specs.Files.{named, if_some}
use Rattle.acpi_layout.proofs.files.only.Given as goal

abbrev pub invariant-files : goal.invariant-files
invariant-files l = named l.signature (map (λ file. file.items) (take l.index l.files)) ≡ if_some (option_map (λ file. file.now) l.found)
