use Rattle.std.proofs.Common.{◌≡◌, map, take}
use Rattle.acpi_layout.specs.Files.{others}
use Rattle.acpi_layout.proofs.files.others.Given as goal

abbrev pub invariant-files : goal.invariant-files
invariant-files l = map (λ table. table.now) l.tables.items ≡ others (map (λ file. file.items) (take l.file-index l.files))
