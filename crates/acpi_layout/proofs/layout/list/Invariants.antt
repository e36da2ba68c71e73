use Rattle.std.proofs.Common.{◌≡◌, ◌+◌, ◌*◌, ◌<◌, ◌^◌, take}
use Rattle.acpi_layout.specs.Image.{listing}
use Rattle.acpi_layout.proofs.layout.list.Given as goal

abbrev pub invariant-loop-place : goal.invariant-loop-place
invariant-loop-place l = record {
  is : l.table.table.table ≡ listing l.base l.fn.oem (take l.place-index l.places);
  fits : 36 + 8 * l.place-index < 2 ^ 32;
}
