use Rattle.std.proofs.Common.{◌≡◌, drop, map}
use Rattle.acpi_layout.specs.Files.{named}
use Rattle.acpi_loader.proofs.places.has_file.Given as goal

abbrev pub invariant-files : goal.invariant-files
invariant-files l =
    named l.signature (map (λ file. file.items) (drop l.file-index l.files)) ≡ named l.signature (map (λ file. file.items) l.files)
