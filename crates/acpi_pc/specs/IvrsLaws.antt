-- Laws about the blocks of an IVRS.
use Rattle.std.specs.Prelude.{◌≡◌, ℕ, ◌≤◌, List, [], ◌∷◌, length}
use Rattle.acpi_base.specs.Walk.{IsPiece}
use Rattle.acpi_base.specs.declared.walk.Place.TheVariants.{Byte}
use Rattle.acpi_base.specs.declared.walk.Sizes.TheVariants.{ByType}
use Rattle.acpi_base.specs.declared.walk.Types.TheVariants.{DeviceEntries}
use Rattle.acpi_core.specs.Offset.{StandIn}
use Rattle.acpi_pc.specs.Ivrs.{ivhd_bytes, extended_number, extended_ivhd_bytes, peripherals_number, ivmd_bytes}
use Rattle.acpi_pc.specs.IvrsEntries.{entry_bytes}
use Rattle.acpi_pc.specs.declared.ivrs.entries.DeviceEntry.{DeviceEntry}
use Rattle.acpi_pc.specs.declared.ivrs.memory.Ivmd.{Ivmd}
use Rattle.acpi_pc.specs.declared.ivrs.units.ExtendedIvhd.{ExtendedIvhd}
use Rattle.acpi_pc.specs.declared.ivrs.units.Ivhd.{Ivhd}

-- Each block begins with its type.
pub record BlocksTellKinds : Type 0 where
  pub units : (u : Ivhd) → StandIn (ivhd_bytes u) 0 (0x10 ∷ [])
  pub extended : (u : ExtendedIvhd) → StandIn (extended_ivhd_bytes u) 0 (extended_number u.kind ∷ [])
  pub memories : (m : Ivmd) → StandIn (ivmd_bytes m) 0 (peripherals_number m.peripherals ∷ [])

-- The bytes of an IOMMU have its entries after its own fields. Each entry has the length of its type.
pub record EntriesAreRead : Type 0 where
  pub units : (u : Ivhd) → StandIn (ivhd_bytes u) 24 u.entries
  pub extended : (u : ExtendedIvhd) → StandIn (extended_ivhd_bytes u) 40 u.entries
  pub lengths : (e : DeviceEntry) → IsPiece (ByType (Byte 0) DeviceEntries) (entry_bytes e)
