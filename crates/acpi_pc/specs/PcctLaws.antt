-- Laws about the subspaces of a PCCT.
use Rattle.std.specs.Prelude.{ℕ, List, [], ◌∷◌}
use Rattle.acpi_core.specs.Offset.{StandIn}
use Rattle.acpi_pc.specs.Pcct.{generic_bytes, reduced_bytes, acknowledged_bytes, role_number, extended_bytes, registers_bytes}
use Rattle.acpi_pc.specs.declared.pcct.extended.ExtendedSubspace.{ExtendedSubspace}
use Rattle.acpi_pc.specs.declared.pcct.extended.RegistersSubspace.{RegistersSubspace}
use Rattle.acpi_pc.specs.declared.pcct.subspaces.AcknowledgedSubspace.{AcknowledgedSubspace}
use Rattle.acpi_pc.specs.declared.pcct.subspaces.GenericSubspace.{GenericSubspace}
use Rattle.acpi_pc.specs.declared.pcct.subspaces.ReducedSubspace.{ReducedSubspace}

-- Each subspace begins with its type and its length.
pub record SubspacesTellKinds : Type 0 where
  pub generic : (s : GenericSubspace) → StandIn (generic_bytes s) 0 (0 ∷ 62 ∷ [])
  pub reduced : (s : ReducedSubspace) → StandIn (reduced_bytes s) 0 (1 ∷ 62 ∷ [])
  pub acknowledged : (s : AcknowledgedSubspace) → StandIn (acknowledged_bytes s) 0 (2 ∷ 90 ∷ [])
  pub extended : (s : ExtendedSubspace) → StandIn (extended_bytes s) 0 (role_number s.role ∷ 164 ∷ [])
  pub registers : (s : RegistersSubspace) → StandIn (registers_bytes s) 0 (5 ∷ 96 ∷ [])
