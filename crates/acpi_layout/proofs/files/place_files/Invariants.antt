use Rattle.std.proofs.Common.{◌≡◌, map, take}
use Rattle.acpi_layout.specs.Image.{all_placed}
use Rattle.acpi_layout.proofs.files.place_files.Given as goal

abbrev pub invariant-tables : goal.invariant-tables
invariant-tables l =
    record { bytes = l.bytes.items; places = l.places.items }
    ≡ all_placed (map (λ table. table.now) (take l.table-index l.tables)) (record { bytes = l.initial.bytes.items; places = l.initial.places.items })
