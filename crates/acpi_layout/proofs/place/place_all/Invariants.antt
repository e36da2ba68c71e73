use Rattle.std.proofs.Common.{map, take}
use Rattle.acpi_layout.specs.Image.{Places}
use Rattle.acpi_layout.proofs.place.place_all.Given as goal

abbrev pub invariant-loop-table : goal.invariant-loop-table
invariant-loop-table g l =
    Places (map (λ table. (goal.Aml-dyn g table.now).object table.now.1) (take l.table-index l.tables))
    (record { bytes = l.initial.bytes.items; places = l.initial.places.items }) (record { bytes = l.bytes.items; places = l.places.items })
