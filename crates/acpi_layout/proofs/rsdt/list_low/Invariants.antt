use Rattle.std.proofs.Common.{◌≡◌, ◌+◌, ◌*◌, ◌<◌, ◌^◌, take}
use Rattle.acpi_layout.specs.Rsdt.{low_listing}
use Rattle.acpi_layout.proofs.rsdt.list_low.Given as goal

abbrev pub invariant-loop-place : goal.invariant-loop-place
invariant-loop-place l = record {
  is : l.table.table.table ≡ low_listing l.base l.fn.oem (take l.place-index l.places);
  fits : 36 + 4 * l.place-index < 2 ^ 32;
}
