-- Laws about the structures of an NFIT.
use Rattle.std.specs.Prelude.{◌≡◌, ℕ, ◌^◌, ◌<◌, List, [], ◌∷◌}
use Rattle.acpi_base.specs.Bytes.{field_at}
use Rattle.acpi_core.specs.Offset.{StandIn}
use Rattle.acpi_pc.specs.Nfit.{spa_bytes, mapping_bytes, control_bytes, window_bytes}
use Rattle.acpi_pc.specs.NfitLists.{interleave_bytes, smbios_bytes, flush_bytes, capabilities_bytes}
use Rattle.acpi_pc.specs.declared.nfit.lists.FlushHint.{FlushHint}
use Rattle.acpi_pc.specs.declared.nfit.lists.Interleave.{Interleave}
use Rattle.acpi_pc.specs.declared.nfit.platform.Capabilities.{Capabilities}
use Rattle.acpi_pc.specs.declared.nfit.platform.SmbiosInformation.{SmbiosInformation}
use Rattle.acpi_pc.specs.declared.nfit.ranges.SpaRange.{SpaRange}
use Rattle.acpi_pc.specs.declared.nfit.regions.ControlRegion.{ControlRegion}
use Rattle.acpi_pc.specs.declared.nfit.regions.DataWindow.{DataWindow}
use Rattle.acpi_pc.specs.declared.nfit.regions.RegionMapping.{RegionMapping}

-- Each structure begins with its type, of two bytes.
pub record StructuresTellKinds : Type 0 where
  pub ranges : (r : SpaRange) → StandIn (spa_bytes r) 0 (0 ∷ 0 ∷ [])
  pub mappings : (m : RegionMapping) → StandIn (mapping_bytes m) 0 (1 ∷ 0 ∷ [])
  pub interleaves : (i : Interleave) → StandIn (interleave_bytes i) 0 (2 ∷ 0 ∷ [])
  pub smbios : (s : SmbiosInformation) → StandIn (smbios_bytes s) 0 (3 ∷ 0 ∷ [])
  pub controls : (c : ControlRegion) → StandIn (control_bytes c) 0 (4 ∷ 0 ∷ [])
  pub windows : (w : DataWindow) → StandIn (window_bytes w) 0 (5 ∷ 0 ∷ [])
  pub flushes : (h : FlushHint) → StandIn (flush_bytes h) 0 (6 ∷ 0 ∷ [])
  pub platforms : (c : Capabilities) → StandIn (capabilities_bytes c) 0 (7 ∷ 0 ∷ [])

-- The bytes of a structure contain the number of entries of its list, and have the list after its own fields.
pub record ListsAreRead : Type 0 where
  pub lines : (i : Interleave) → i.lines.count < 2 ^ 32
      → (field_at 8 4 (interleave_bytes i) ≡ i.lines.count) × StandIn (interleave_bytes i) 16 i.lines.bytes
  pub smbios : (s : SmbiosInformation) → StandIn (smbios_bytes s) 8 s.structures
  pub addresses : (h : FlushHint) → h.addresses.count < 2 ^ 16
      → (field_at 8 2 (flush_bytes h) ≡ h.addresses.count) × StandIn (flush_bytes h) 16 h.addresses.bytes
