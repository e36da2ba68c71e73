-- Device entries of an IVHD (AMD 48882, AMD I/O Virtualization Technology Specification 3.07, 5.2.2).
use Rattle.std.specs.Prelude.{ℕ, ◌+◌, List, [], ◌∷◌, ◌++◌, length}
use Rattle.acpi_base.specs.Fields.{NamedField, byte, word, dword, hex, preset, one_of, flags, text, reserved, fields_joined}
use Rattle.acpi_base.specs.Look.{Part, flag, part, means}
use Rattle.acpi_pc.specs.declared.ivrs.acpi_device.AcpiDevice.{AcpiDevice}
use Rattle.acpi_pc.specs.declared.ivrs.entries.DeviceEntry.{DeviceEntry}
use Rattle.acpi_pc.specs.declared.ivrs.entries.DeviceEntry.TheVariants as entries
use Rattle.acpi_pc.specs.declared.ivrs.entries.SpecialDevice.{SpecialDevice}
use Rattle.acpi_pc.specs.declared.ivrs.entries.SpecialDevice.TheVariants.{IoApic, Hpet}

-- DTE Setting
abbrev pub setting_bits : List Part
setting_bits =
    flag 0x1 "INITPass"
    ∷ flag 0x2 "EIntPass"
    ∷ flag 0x4 "NMIPass"
    ∷ part 0x30 0x10 "SysMgt"
    ∷ flag 0x40 "Lint0Pass"
    ∷ flag 0x80 "Lint1Pass"
    ∷ []

-- entries of 4 bytes
abbrev pub device_fields : ℕ → ℕ → ℕ → List NamedField
device_fields kind device setting =
    hex byte "Type" kind  -- 0
    ∷ hex word "DeviceID" device  -- 1
    ∷ flags setting_bits byte "DTE Setting" setting  -- 3
    ∷ []

-- entries with the id of another device
abbrev pub alias_fields : ℕ → ℕ → ℕ → ℕ → List NamedField
alias_fields kind device setting source =
    hex byte "Type" kind  -- 0
    ∷ hex word "DeviceID" device  -- 1
    ∷ flags setting_bits byte "DTE Setting" setting  -- 3
    ∷ reserved 1  -- 4
    ∷ hex word "Source DeviceID" source  -- 5
    ∷ reserved 1  -- 7
    ∷ []

-- Extended DTE Setting
abbrev pub extended_bits : List Part
extended_bits =
    flag 0x80000000 "AtsDisabled"
    ∷ []

abbrev pub extended_fields : ℕ → ℕ → ℕ → ℕ → List NamedField
extended_fields kind device setting extended =
    hex byte "Type" kind  -- 0
    ∷ hex word "DeviceID" device  -- 1
    ∷ flags setting_bits byte "DTE Setting" setting  -- 3
    ∷ flags extended_bits dword "Extended DTE Setting" extended  -- 4
    ∷ []

abbrev pub variety_number : SpecialDevice → ℕ
variety_number IoApic = 1
variety_number Hpet = 2

-- the words of Variety
abbrev pub varieties : List (ℕ × List ℕ)
varieties =
    means 1 "IOAPIC"
    ∷ means 2 "HPET"
    ∷ []

abbrev pub special_fields : ℕ → ℕ → ℕ → ℕ → List NamedField
special_fields setting handle source variety =
    preset byte "Type" 72  -- 0
    ∷ reserved 2  -- 1
    ∷ flags setting_bits byte "DTE Setting" setting  -- 3
    ∷ hex byte "Handle" handle  -- 4
    ∷ hex word "Source DeviceID" source  -- 5
    ∷ one_of varieties byte "Variety" variety  -- 7
    ∷ []

abbrev pub entry_fields : DeviceEntry → List NamedField
entry_fields (entries.All setting) = device_fields 1 0 setting
entry_fields (entries.Select device setting) = device_fields 2 device setting
entry_fields (entries.RangeStart device setting) = device_fields 3 device setting
entry_fields (entries.RangeEnd device) = device_fields 4 device 0
entry_fields (entries.Alias device setting source) = alias_fields 66 device setting source
entry_fields (entries.AliasRangeStart device setting source) = alias_fields 67 device setting source
entry_fields (entries.Extended device setting extended) = extended_fields 70 device setting extended
entry_fields (entries.ExtendedRangeStart device setting extended) = extended_fields 71 device setting extended
entry_fields (entries.Special setting handle source device) = special_fields setting handle source (variety_number device)

abbrev pub entry_bytes : DeviceEntry → List ℕ
entry_bytes e = fields_joined (entry_fields e)

-- ---- devices of the namespace

abbrev pub acpi_device_of : ℕ → ℕ → List ℕ → List ℕ → ℕ → List ℕ → AcpiDevice
acpi_device_of device setting hardware compatible format uid = record {
  device = device;
  setting = setting;
  hardware_id = hardware;
  compatible_id = compatible;
  format = format;
  uid = uid;
}

abbrev pub acpi_device : ℕ → ℕ → List ℕ → List ℕ → AcpiDevice
acpi_device device setting hardware compatible = acpi_device_of device setting hardware compatible 0 []

-- the words of UID Format
abbrev pub uid_formats : List (ℕ × List ℕ)
uid_formats =
    means 0 "None"
    ∷ means 1 "Integer"
    ∷ means 2 "String"
    ∷ []

abbrev pub acpi_device_head_fields : AcpiDevice → List NamedField
acpi_device_head_fields d =
    preset byte "Type" 240  -- 0
    ∷ hex word "DeviceID" d.device  -- 1
    ∷ flags setting_bits byte "DTE Setting" d.setting  -- 3
    ∷ text "Hardware ID" 8 d.hardware_id  -- 4
    ∷ text "Compatible ID" 8 d.compatible_id  -- 12
    ∷ one_of uid_formats byte "UID Format" d.format  -- 20
    ∷ byte "UID Length" (length d.uid)  -- 21
    ∷ []

abbrev pub acpi_device_head : AcpiDevice → List ℕ
acpi_device_head d = fields_joined (acpi_device_head_fields d)

abbrev pub acpi_device_bytes : AcpiDevice → List ℕ
acpi_device_bytes d = acpi_device_head d ++ d.uid  -- 22: UID
