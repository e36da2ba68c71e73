-- Laws about the structures of a DMAR.
use Rattle.std.specs.Prelude.{◌≡◌, ℕ, ◌*◌, ◌≤◌, List, [], ◌∷◌, length}
use Rattle.acpi_base.specs.Bytes.{field_at}
use Rattle.acpi_base.specs.Walk.{IsPiece}
use Rattle.acpi_base.specs.declared.walk.Place.TheVariants.{Byte}
use Rattle.acpi_base.specs.declared.walk.Sizes.TheVariants.{ToldAt}
use Rattle.acpi_core.specs.Offset.{StandIn}
use Rattle.acpi_pc.specs.Dmar.{drhd_bytes, rmrr_bytes, atsr_bytes, rhsa_bytes, andd_bytes, satc_bytes, sidp_bytes}
use Rattle.acpi_pc.specs.DmarScopes.{scope_bytes}
use Rattle.acpi_pc.specs.declared.dmar.devices.Andd.{Andd}
use Rattle.acpi_pc.specs.declared.dmar.devices.Rhsa.{Rhsa}
use Rattle.acpi_pc.specs.declared.dmar.scope.DeviceScope.{DeviceScope}
use Rattle.acpi_pc.specs.declared.dmar.scoped.Atsr.{Atsr}
use Rattle.acpi_pc.specs.declared.dmar.scoped.Drhd.{Drhd}
use Rattle.acpi_pc.specs.declared.dmar.scoped.Rmrr.{Rmrr}
use Rattle.acpi_pc.specs.declared.dmar.scoped.Satc.{Satc}
use Rattle.acpi_pc.specs.declared.dmar.scoped.Sidp.{Sidp}

-- Each structure begins with its type, of two bytes.
pub record StructuresTellKinds : Type 0 where
  pub units : (d : Drhd) → StandIn (drhd_bytes d) 0 (0 ∷ 0 ∷ [])
  pub regions : (r : Rmrr) → StandIn (rmrr_bytes r) 0 (1 ∷ 0 ∷ [])
  pub ports : (a : Atsr) → StandIn (atsr_bytes a) 0 (2 ∷ 0 ∷ [])
  pub affinities : (r : Rhsa) → StandIn (rhsa_bytes r) 0 (3 ∷ 0 ∷ [])
  pub devices : (d : Andd) → StandIn (andd_bytes d) 0 (4 ∷ 0 ∷ [])
  pub caches : (s : Satc) → StandIn (satc_bytes s) 0 (5 ∷ 0 ∷ [])
  pub properties : (s : Sidp) → StandIn (sidp_bytes s) 0 (6 ∷ 0 ∷ [])

-- The bytes of a structure have its scopes after its own fields, and the name of a device in their place. A scope contains its
-- length at offset 1, and its path at offset 6.
pub record ScopesAreRead : Type 0 where
  pub units : (d : Drhd) → StandIn (drhd_bytes d) 16 d.scopes
  pub regions : (r : Rmrr) → StandIn (rmrr_bytes r) 24 r.scopes
  pub ports : (a : Atsr) → StandIn (atsr_bytes a) 8 a.scopes
  pub names : (d : Andd) → StandIn (andd_bytes d) 8 d.name
  pub caches : (s : Satc) → StandIn (satc_bytes s) 8 s.scopes
  pub properties : (s : Sidp) → StandIn (sidp_bytes s) 8 s.scopes
  pub paths : (s : DeviceScope) → length s.path.bytes ≤ 248
      → IsPiece (ToldAt (Byte 1)) (scope_bytes s) × StandIn (scope_bytes s) 6 s.path.bytes
