-- Sources of PCI Express Advanced Error Reporting (ACPI 6.5, 18.3.2.4 to 18.3.2.6).
use Rattle.std.specs.Prelude.{ℕ, List, [], ◌∷◌, ◌++◌}
use Rattle.acpi_base.specs.Fields.{NamedField, byte, word, dword, hex, flags, one_of, reserved, fields_joined}
use Rattle.acpi_base.specs.Look.{Part, flag, part, means}
use Rattle.acpi_hest.specs.declared.hest.aer.Aer.{Aer}
use Rattle.acpi_hest.specs.declared.hest.aer.AerBridge.{AerBridge}
use Rattle.acpi_hest.specs.declared.hest.aer.AerDevice.{AerDevice}
use Rattle.acpi_hest.specs.declared.hest.aer.AerRootPort.{AerRootPort}
use Rattle.acpi_hest.specs.declared.hest.aer.FirmwareFirst.{FirmwareFirst}
use Rattle.acpi_hest.specs.declared.hest.aer.FirmwareFirst.TheVariants.{Disabled, Enabled}
use Rattle.acpi_hest.specs.declared.hest.aer.PciDevice.{PciDevice}
use Rattle.acpi_hest.specs.declared.hest.generic.EnabledStatus.{EnabledStatus}
use Rattle.acpi_hest.specs.declared.hest.generic.EnabledStatus.TheVariants as statuses

abbrev pub pci_device : ℕ → ℕ → ℕ → PciDevice
pci_device bus device function = record { bus = bus; device = device; function = function }

-- Enabled, in sources of all kinds
abbrev pub enabled_number : EnabledStatus → ℕ
enabled_number statuses.Disabled = 0
enabled_number statuses.Enabled = 1

abbrev pub firmware_first_number : FirmwareFirst → ℕ
firmware_first_number Disabled = 0
firmware_first_number Enabled = 1

-- Flags of a source
abbrev pub aer_bits : List Part
aer_bits =
    flag 0x1 "FIRMWARE_FIRST"
    ∷ flag 0x2 "GLOBAL"
    ∷ []

-- the words of Enabled
abbrev pub enabled_words : List (ℕ × List ℕ)
enabled_words =
    means 0 "Disabled"
    ∷ means 1 "Enabled"
    ∷ []

-- Bus: the bus in bits 7:0, the segment in bits 23:8
abbrev pub bus_bits : List Part
bus_bits =
    part 0x0000ff 0x000001 "Bus"
    ∷ part 0xffff00 0x000100 "Segment"
    ∷ []

module _ {T : Type 0} {N : ℕ} where
  -- a source with these flags and this address, in which all fields except those of its kind are zero
  abbrev pub aer : T → ℕ → ℕ → ℕ → ℕ → Aer T N
  aer tail flags bus device function = record {
    source_id = 0;
    flags = flags;
    enabled = statuses.Disabled;
    num_records = 0;
    max_sections = 0;
    bus = bus;
    device = device;
    function = function;
    device_control = 0;
    uncorrectable_error_mask = 0;
    uncorrectable_error_severity = 0;
    correctable_error_mask = 0;
    aer_cap_ctrl = 0;
    tail = tail;
  }

  -- the source of all devices of a kind
  abbrev pub aer_global : T → Aer T N
  aer_global tail = aer tail 2 0 0 0

  -- the source of one device
  abbrev pub aer_of : T → FirmwareFirst → PciDevice → Aer T N
  aer_of tail ff d = aer tail (firmware_first_number ff) d.bus d.device d.function

  -- the fields that sources of all kinds have
  abbrev pub aer_head_fields : ℕ → Aer T N → List NamedField
  aer_head_fields kind s =
      word "Type" kind  -- 0
      ∷ hex word "Source Id" s.source_id  -- 2
      ∷ reserved 2  -- 4
      ∷ flags aer_bits byte "Flags" s.flags  -- 6
      ∷ one_of enabled_words byte "Enabled" (enabled_number s.enabled)  -- 7
      ∷ dword "Number of Records to Pre-allocate" s.num_records  -- 8
      ∷ dword "Max Sections Per Record" s.max_sections  -- 12
      ∷ flags bus_bits dword "Bus" s.bus  -- 16
      ∷ word "Device" s.device  -- 20
      ∷ word "Function" s.function  -- 22
      ∷ hex word "Device Control" s.device_control  -- 24
      ∷ reserved 2  -- 26
      ∷ hex dword "Uncorrectable Error Mask" s.uncorrectable_error_mask  -- 28
      ∷ hex dword "Uncorrectable Error Severity" s.uncorrectable_error_severity  -- 32
      ∷ hex dword "Correctable Error Mask" s.correctable_error_mask  -- 36
      ∷ hex dword "Advanced Error Capabilities and Control" s.aer_cap_ctrl  -- 40
      ∷ []

  abbrev pub aer_head : ℕ → Aer T N → List ℕ
  aer_head kind s = fields_joined (aer_head_fields kind s)

  abbrev pub aer_bytes : ℕ → (T → List NamedField) → Aer T N → List ℕ
  aer_bytes kind tail_fields s = aer_head kind s ++ fields_joined (tail_fields s.tail)

-- ---- the fields of each kind

abbrev pub zero_root_port : AerRootPort
zero_root_port = record { root_error_command = 0 }

abbrev pub root_port_fields : AerRootPort → List NamedField
root_port_fields t =
    hex dword "Root Error Command" t.root_error_command  -- 44
    ∷ []

abbrev pub zero_device : AerDevice
zero_device = record {}

abbrev pub device_fields : AerDevice → List NamedField
device_fields t = []

abbrev pub zero_bridge : AerBridge
zero_bridge = record {
  secondary_uncorrectable_error_mask = 0;
  secondary_uncorrectable_error_severity = 0;
  secondary_aer_cap_ctrl = 0;
}

abbrev pub bridge_fields : AerBridge → List NamedField
bridge_fields t =
    hex dword "Secondary Uncorrectable Error Mask" t.secondary_uncorrectable_error_mask  -- 44
    ∷ hex dword "Secondary Uncorrectable Error Severity" t.secondary_uncorrectable_error_severity  -- 48
    ∷ hex dword "Secondary Advanced Error Capabilities and Control" t.secondary_aer_cap_ctrl  -- 52
    ∷ []
