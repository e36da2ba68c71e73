-- Device scopes (Intel Virtualization Technology for Directed I/O 4.1, 8.3.1).
use Rattle.std.specs.Prelude.{ℕ, ◌+◌, List, [], ◌∷◌, ◌++◌, length}
use Rattle.acpi_base.specs.Fields.{NamedField, byte, hex, one_of, reserved, fields_joined}
use Rattle.acpi_base.specs.Look.{means}
use Rattle.acpi_core.specs.Entries.{no_entries, with_entry}
use Rattle.acpi_pc.specs.declared.dmar.scope.DeviceScope.{DeviceScope}
use Rattle.acpi_pc.specs.declared.dmar.scope.ScopeType.{ScopeType}
use Rattle.acpi_pc.specs.declared.dmar.scope.ScopeType.TheVariants as scopes
use Rattle.acpi_pc.specs.declared.dmar.scope.Step.{Step}

-- a step of a path
abbrev pub step_fields : Step → List NamedField
step_fields s =
    hex byte "Device" s.device  -- 0
    ∷ hex byte "Function" s.function  -- 1
    ∷ []

abbrev pub step_bytes : ℕ → ℕ → List ℕ
step_bytes device function = fields_joined (step_fields (record { device = device; function = function }))

-- a scope whose path has one step
abbrev pub device_scope : ScopeType → ℕ → ℕ → ℕ → ℕ → DeviceScope
device_scope kind id bus device function = record {
  kind = kind;
  flags = 0;
  enumeration_id = id;
  start_bus = bus;
  path = with_entry no_entries (step_bytes device function);
}

abbrev pub scope_number : ScopeType → ℕ
scope_number scopes.PciEndpoint = 1
scope_number scopes.PciSubHierarchy = 2
scope_number scopes.IoApic = 3
scope_number scopes.MsiCapableHpet = 4
scope_number scopes.AcpiNamespaceDevice = 5

-- the words of Type
abbrev pub scope_words : List (ℕ × List ℕ)
scope_words =
    means 1 "PCI Endpoint Device"
    ∷ means 2 "PCI Sub-hierarchy"
    ∷ means 3 "IOAPIC"
    ∷ means 4 "MSI_CAPABLE_HPET"
    ∷ means 5 "ACPI_NAMESPACE_DEVICE"
    ∷ []

abbrev pub scope_head_fields : DeviceScope → List NamedField
scope_head_fields s =
    one_of scope_words byte "Type" (scope_number s.kind)  -- 0
    ∷ byte "Length" (6 + length s.path.bytes)  -- 1
    ∷ hex byte "Flags" s.flags  -- 2
    ∷ reserved 1  -- 3
    ∷ hex byte "Enumeration ID" s.enumeration_id  -- 4
    ∷ hex byte "Start Bus Number" s.start_bus  -- 5
    ∷ []

abbrev pub scope_head : DeviceScope → List ℕ
scope_head s = fields_joined (scope_head_fields s)

abbrev pub scope_bytes : DeviceScope → List ℕ
scope_bytes s = scope_head s ++ s.path.bytes  -- 6: Path
